-- The keys that the program makes stand in order of cost and number. Assumes nothing.
use mathlib.Core.Path.{◌∙◌, ◌≡◌, ap, subst, sym}
use mathlib.Core.Logic.{◌↔◌, ◌⊎◌, inl, inr}
use mathlib.Core.List.{List}
use Prim.Native.Nat.{◌%◌, ◌*◌, ◌+◌, ◌-◌, ◌/◌, ◌<◌, ◌^◌, ◌≤◌, min, ℕ}
use lib.ListN.{drop, get_or, replicate}
use Rattle.std.proofs.lemmas.List.{get_or-replicate}
use lib.Pow.{pow-add, pow_mono, pow_pos}
use native.Mathlib.Decide.{dec_lt}
use native.Mathlib.Nat.{mul-le-mul_left, mul-suc}
use native.Mathlib.Omega.{arith}
use Rattle.preference.specs.Order.{Before, cost_of}
use Rattle.preference.proofs.CostLaws.{cost_empty, cost_split}
use Rattle.ranking.specs.Grid.{Grid, Ranked, never_key}
use Rattle.ranking.specs.Keys.{Keys, KeysWritten, key_of, never, widened}
use Rattle.ranking.proofs.GridLaws.{key_at_lem, split}

-- a cost and a number as one number, whatever the width of the second
pub pair_less : (B a m b n : ℕ) → m < B → n < B → (B * a + m < B * b + n) ↔ ((a < b) ⊎ ((a ≡ b) × (m < n)))
pair_less B a m b n l k = (forth, back)
  where
    step : (x y : ℕ) → x < y → B * x + B ≤ B * y
    step x y h = omega (arith, mul-suc B x, mul-le-mul_left B h)

    forth : B * a + m < B * b + n → (a < b) ⊎ ((a ≡ b) × (m < n))
    forth h = go (dec_lt a b) (dec_lt b a)
      where
        go : Dec (a < b) → Dec (b < a) → (a < b) ⊎ ((a ≡ b) × (m < n))
        go (yes i) _ = inl i
        go (no _) (yes i) = absurd (omega (arith, step b a i))
        go (no i) (no j) = let e : a ≡ b = omega arith in inr (e, omega (arith, ap (λ (x : ℕ). B * x) e))

    back : (a < b) ⊎ ((a ≡ b) × (m < n)) → B * a + m < B * b + n
    back (inl i) = omega (arith, step a b i)
    back (inr (e, i)) = omega (arith, ap (λ (x : ℕ). B * x) e)

-- ---- one block: the keys of its lanes

pub lanes_ranked : (ws : List ℕ) (count : ℕ) (low : List ℕ) → count ≤ 8 → Keys ws 0 count low → Ranked (cost_of ws) (λ i. get_or low i 0) (2 ^ count) never
lanes_ranked ws count low c k = record {
  less = λ m n i j. less m n i j;
  small = λ n i. omega (arith, k.small n i);
}
  where
    top : 2 ^ count ≤ 256
    top = pow_mono {i = count} {j = 8} c

    less : (m n : ℕ) → m < 2 ^ count → n < 2 ^ count → (get_or low m 0 < get_or low n 0) ↔ Before (cost_of ws) m n
    less m n i j =
        let p = pair_less 256 (cost_of ws m) m (cost_of ws n) n (omega (arith, top)) (omega (arith, top)) in (
          (λ h. p.0 (omega (arith, k.each m i, k.each n j))),
          (λ h. let q = p.1 h in omega (arith, k.each m i, k.each n j)),
        )

-- ---- many blocks

module _ (ws : List ℕ) (count inner : ℕ) (low high : List ℕ) (c : count ≤ 16) (is : inner ≡ min count 8) (L : Keys ws 0 inner low)
    (H : Keys ws inner (count - inner) high) (beyond : (i : ℕ) → 2 ^ inner ≤ i → i < 256 → get_or low i 0 ≡ never) where
  abbrev key : ℕ → ℕ
  key = key_of (cost_of ws)

  lanes_most : 2 ^ inner ≤ 256
  lanes_most = pow_mono {i = inner} {j = 8} (omega arith)

  blocks_most : 2 ^ (count - inner) ≤ 256
  blocks_most = pow_mono {i = count - inner} {j = 8} (omega arith)

  pub shape : ((2 ^ (count - inner) ≡ 1) × (2 ^ count ≡ 2 ^ inner)) ⊎ ((2 ^ inner ≡ 256) × (2 ^ count ≡ 256 * 2 ^ (count - inner)))
  shape = go (dec_lt count 8)
    where
      go : Dec (count < 8) → ((2 ^ (count - inner) ≡ 1) × (2 ^ count ≡ 2 ^ inner)) ⊎ ((2 ^ inner ≡ 256) × (2 ^ count ≡ 256 * 2 ^ (count - inner)))
      go (yes l) =
          let e : inner ≡ count = omega arith in
          let z : count - inner ≡ 0 = omega arith in
          inl (ap (λ (x : ℕ). 2 ^ x) z, ap (λ (x : ℕ). 2 ^ x) (sym e))
      go (no l) =
          let e : inner ≡ 8 = omega arith in
          let s : count ≡ 8 + (count - inner) = omega arith in
          inr (ap (λ (x : ℕ). 2 ^ x) e, ap (λ (x : ℕ). 2 ^ x) s ∙ pow-add 2 8 (count - inner))

  keyed : (b i : ℕ) → b < 2 ^ (count - inner) → i < 2 ^ inner → key (256 * b + i) ≡ 256 * get_or high b 0 + widened (get_or low i 0)
  unfolding key_of
  keyed b i l k = go shape
    where
      small : i < 256
      small = omega (arith, lanes_most)

      go : ((2 ^ (count - inner) ≡ 1) × (2 ^ count ≡ 2 ^ inner)) ⊎ ((2 ^ inner ≡ 256) × (2 ^ count ≡ 256 * 2 ^ (count - inner)))
          → 65536 * cost_of ws (256 * b + i) + (256 * b + i) ≡ 256 * get_or high b 0 + widened (get_or low i 0)
      go (inl (e, d)) =
          let z : b ≡ 0 = omega arith in
          let n : 256 * b + i ≡ i = omega arith in
          let h : get_or high b 0 ≡ 0 = H.each b l ∙ omega (arith, ap (cost_of (drop inner ws)) z, cost_empty (drop inner ws)) in
          omega (arith, ap (cost_of ws) n, L.each i k, small)
      go (inr (e, d)) =
          let n : 256 * b + i < 2 ^ 64 = omega (arith, blocks_most) in
          let lane : (256 * b + i) % 2 ^ 8 ≡ i = omega arith in
          let block : (256 * b + i) / 2 ^ 8 ≡ b = omega arith in
          let eight : inner ≡ 8 = full (dec_lt count 8) in
          let h : get_or high b 0 ≡ 256 * cost_of (drop 8 ws) b + b = H.each b l ∙ ap (λ (x : ℕ). 256 * cost_of (drop x ws) b + b) eight in
          omega (arith, cost_split 8 ws (256 * b + i) n, ap (cost_of ws) lane, ap (cost_of (drop 8 ws)) block, L.each i k, h, small, blocks_most)
        where
          full : Dec (count < 8) → inner ≡ 8
          full (yes x) = absurd (omega (arith, pow_mono {i = inner} {j = 7} (omega arith)))
          full (no x) = omega arith

  pub grid : Grid key (2 ^ count) low (2 ^ inner) high (2 ^ (count - inner))
  grid = record {
    tables = record {
      some = pow_pos inner;
      lanes_most = lanes_most;
      blocks_most = blocks_most;
      low_small = L.small;
      low_beyond = beyond;
      high_small = H.small;
      high_number = λ b l. omega (arith, H.each b l, blocks_most);
    };
    shape = shape;
    keyed = keyed;
  }

-- the keys are written into tables that are filled with never
pub grid_written : (ws : List ℕ) (count inner lanes blocks : ℕ) (low high : List ℕ) → count ≤ 16 → inner ≡ min count 8 → lanes ≡ 2 ^ inner → blocks ≡ 2 ^ (count - inner)
    → KeysWritten ws 0 inner (replicate 256 never) low → KeysWritten ws inner (count - inner) (replicate 256 never) high
    → Grid (key_of (cost_of ws)) (2 ^ count) low lanes high blocks
grid_written ws count inner lanes blocks low high c is l b L H =
    subst (λ (x : ℕ). Grid (key_of (cost_of ws)) (2 ^ count) low x high blocks) (sym l)
    (subst (λ (x : ℕ). Grid (key_of (cost_of ws)) (2 ^ count) low (2 ^ inner) high x) (sym b)
    (grid ws count inner low high c is L.keys H.keys (λ i m k. L.beyond i m ∙ get_or-replicate 256 i never 0 k)))

-- the keys of a grid of candidates stand in order
pub ranked : (ws : List ℕ) (count : ℕ) (low : List ℕ) (lanes : ℕ) (high : List ℕ) (blocks : ℕ) → count ≤ 16
    → Grid (key_of (cost_of ws)) (2 ^ count) low lanes high blocks → Ranked (cost_of ws) (key_of (cost_of ws)) (2 ^ count) never_key
unfolding key_of
ranked ws count low lanes high blocks c g = record {
  less = λ m n i j. pair_less 65536 (cost_of ws m) m (cost_of ws n) n (omega (arith, top)) (omega (arith, top));
  small = λ n i. let s = split (key_of (cost_of ws)) (2 ^ count) low lanes high blocks g n i in
      omega (arith, key_at_lem (key_of (cost_of ws)) (2 ^ count) low lanes high blocks g n i, g.tables.high_small (n / 256) s.0, g.tables.low_small (n % 256) s.1);
}
  where
    top : 2 ^ count ≤ 65536
    top = pow_mono {i = count} {j = 16} c
