-- Candidates by blocks, in order of the blocks' keys. Assumes nothing.
use mathlib.Core.Path.{◌∙◌, ◌≡◌, ap, subst, sym}
use mathlib.Core.Logic.{◌⊎◌, inl, inr}
use mathlib.Core.Bool.{Bool, true}
use mathlib.Core.List.{List}
use Prim.Native.Nat.{◌%◌, ◌*◌, ◌+◌, ◌/◌, ◌<◌, ◌≤◌, ℕ}
use lib.ListN.{get_or}
use native.Mathlib.Decide.{dec_lt}
use native.Mathlib.Omega.{arith}
use Rattle.lists.specs.Sums.{sum}
use Rattle.preference.specs.InArrays.{opens_at}
use Rattle.lanes.specs.Blocks.{Unlocking}
use Rattle.ranking.specs.Cheapest.{Cheapest, Passing}
use Rattle.ranking.specs.Grid.{Grid, Settled, Tables, key_at, never_key}
use Rattle.ranking.specs.Keys.{never, widened}
use Rattle.ranking.specs.Next.{NextKey}
use Rattle.ranking.specs.Place.{Bar, below}
use Rattle.ranking.proofs.GridLaws.{counted, inside, key_at_lem, split}
use Rattle.ranking.proofs.SettledLaws.{count_later}
use Rattle.search.specs.Blocks.{Best, BestOf, Better, Known, Last, Visited}

-- ---- one block

widened_later : (x y : ℕ) → x ≤ y → widened x ≤ widened y
widened_later x y l = omega arith

pub visited : (levels : ℕ) (h p m s : List ℕ) (request shown : ℕ) (members : List ℕ) (count key best : ℕ) (low words : List ℕ) (lanes lane r : ℕ) (high : List ℕ) (blocks : ℕ) → Tables low lanes high blocks
    → Unlocking levels h p m s request shown members count (key % 256) words → Cheapest low words 256 lane → Better best (256 * key + widened lane) r
    → Visited (opens_at levels h p m s request shown members count) low lanes key best r
unfolding opens_at
visited levels h p m s request shown members count key best low words lanes lane r high blocks k u c b = record {
  kept = b.kept;
  each = λ i l t. omega (arith, b.met, widened_later lane (get_or low i 0) (c.least i (omega (arith, k.lanes_most)) (u.each i (omega (arith, k.lanes_most)) ∙ t)));
  one = one b.one;
}
  where
    met : r ≡ 256 * key + widened lane → (lane ≡ never) ⊎ ((i : ℕ) × (i < 256) × Passing words i × (get_or low i 0 ≡ lane))
        → (never_key ≤ r) ⊎ ((i : ℕ) × (i < lanes) × (opens_at levels h p m s request shown members count (256 * (key % 256) + i) ≡ true) × (256 * key + widened (get_or low i 0) ≡ r))
    met e (inl z) = inl (omega arith)
    met e (inr (i, l, q, d)) = go (dec_lt i lanes)
      where
        go : Dec (i < lanes) → (never_key ≤ r)
            ⊎ ((i : ℕ) × (i < lanes) × (opens_at levels h p m s request shown members count (256 * (key % 256) + i) ≡ true) × (256 * key + widened (get_or low i 0) ≡ r))
        go (yes j) = inr (i, j, sym (u.each i l) ∙ q, omega arith)
        go (no j) = let z = k.low_beyond i (omega arith) l in inl (omega arith)

    one : (r ≡ best) ⊎ (r ≡ 256 * key + widened lane) → (r ≡ best)
        ⊎ ((never_key ≤ r) ⊎ ((i : ℕ) × (i < lanes) × (opens_at levels h p m s request shown members count (256 * (key % 256) + i) ≡ true) × (256 * key + widened (get_or low i 0) ≡ r)))
    one (inl e) = inl e
    one (inr e) = inr (met e c.one)

-- ---- block after block

module _ (test : ℕ → Bool) (low : List ℕ) (lanes : ℕ) (high : List ℕ) (blocks : ℕ) where
  pub best_none : Best test low lanes high blocks 0 never_key
  best_none = record { each = λ b i l k t f. absurd (omega arith); one = inl (omega arith) }

  module _ (t : Tables low lanes high blocks) (from best key : ℕ) (h : Best test low lanes high blocks from best) (next : NextKey high blocks from key) where
    -- a block that is not taken yet has this key or one after it
    after : (b : ℕ) → b < blocks → (get_or high b 0 < from → ⊥) → key ≤ get_or high b 0
    after b l f = next.least b l (omega arith)

    pub best_more : (r : ℕ) → key < never → Visited test low lanes key best r → Best test low lanes high blocks (key + 1) r
    best_more r s v = record { each = λ b i l k q f. each b i l k q f (dec_lt (get_or high b 0) from); one = one v.one }
      where
        each : (b i : ℕ) → b < blocks → i < lanes → test (256 * b + i) ≡ true → get_or high b 0 < key + 1 → Dec (get_or high b 0 < from) → r ≤ key_at low high b i
        each b i l k q f (yes d) = omega (arith, h.each b i l k q d, v.kept)
        each b i l k q f (no d) =
            let e : get_or high b 0 ≡ key = omega (arith, after b l d) in
            let n : b ≡ key % 256 = omega (arith, t.high_number b l) in
            omega (arith, v.each i k (ap (λ (x : ℕ). test (256 * x + i)) (sym n) ∙ q))

        one : (r ≡ best)
            ⊎ ((never_key ≤ r) ⊎ ((i : ℕ) × (i < lanes) × (test (256 * (key % 256) + i) ≡ true) × (256 * key + widened (get_or low i 0) ≡ r)))
            → Known test low lanes high blocks r
        one (inl e) = subst (Known test low lanes high blocks) (sym e) h.one
        one (inr (inl l)) = inl l
        one (inr (inr (i, l, q, e))) =
            let o = next.one s in
            let n : o.0 ≡ key % 256 = omega (arith, t.high_number o.0 o.1, o.2) in
            inr (o.0, i, o.1, l, ap (λ (x : ℕ). test (256 * x + i)) n ∙ q, omega (arith, o.2))

    pub best_end : (end : ℕ) (r : Bool) → Last key end best r → r ≡ true → BestOf test low lanes high blocks end best
    best_end end r last e = record { each = λ b i l k q. each b i l k q (dec_lt (get_or high b 0) from) (last.yes e); one = h.one }
      where
        each : (b i : ℕ) → b < blocks → i < lanes → test (256 * b + i) ≡ true → Dec (get_or high b 0 < from) → (end ≤ key) ⊎ (best < 256 * key)
            → (best ≤ key_at low high b i) ⊎ (end ≤ get_or high b 0)
        each b i l k q (yes d) _ = inl (h.each b i l k q d)
        each b i l k q (no d) (inl z) = inr (omega (arith, after b l d))
        each b i l k q (no d) (inr z) = inl (omega (arith, after b l d))

  -- what the blocks give is settled
  pub settled_blocks : (key : ℕ → ℕ) (N limit end best : ℕ) → Grid key N low lanes high blocks → Bar low lanes high blocks limit end
      → BestOf test low lanes high blocks end best → Settled key test N never_key limit best
  settled_blocks key N limit end best g bar h = record { each = each; one = one h.one }
    where
      each : (m : ℕ) → m < N → test m ≡ true → (best ≤ key m) ⊎ (limit < sum (λ k. below (key k) (key m)) N)
      each m l t = go (h.each (m / 256) (m % 256) s.0 s.1 (ap test (omega arith) ∙ t))
        where
          s : (m / 256 < blocks) × (m % 256 < lanes)
          s = split key N low lanes high blocks g m l

          at : key m ≡ key_at low high (m / 256) (m % 256)
          at = key_at_lem key N low lanes high blocks g m l

          go : (best ≤ key_at low high (m / 256) (m % 256)) ⊎ (end ≤ get_or high (m / 256) 0) → (best ≤ key m) ⊎ (limit < sum (λ k. below (key k) (key m)) N)
          go (inl i) = inl (omega (arith, at))
          go (inr i) =
              let p = bar.past (omega (arith, g.tables.high_small (m / 256) s.0)) in
              inr (omega (arith, p, counted key N low lanes high blocks g (256 * end), count_later key N (256 * end) (key m) (omega (arith, at))))

      one : Known test low lanes high blocks best → (never_key ≤ best) ⊎ ((n : ℕ) × (n < N) × (test n ≡ true) × (key n ≡ best))
      one (inl z) = inl z
      one (inr (b, i, l, k, q, e)) = inr (256 * b + i, inside key N low lanes high blocks g b i l k, q, g.keyed b i l k ∙ e)
