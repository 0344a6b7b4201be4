-- Candidates one by one, with the best so far. Assumes nothing.
use mathlib.Core.Path.{◌∙◌, ◌≡◌, ap, refl, subst, sym}
use mathlib.Core.Logic.{◌⊎◌, inl, inr}
use mathlib.Core.Bool.{Bool, false, true, true≢false}
use mathlib.Core.List.{List}
use Prim.Native.Nat.{◌<◌, ◌≤◌, suc, zero, ℕ}
use lib.ListN.{get_or}
use native.Mathlib.Decide.{dec_lt, ℕ_discrete}
use native.Mathlib.Nat.{not-suc-le-zero}
use native.Mathlib.Omega.{arith}
use Rattle.ranking.specs.Grid.{Settled}
use Rattle.ranking.specs.Keys.{never}
use Rattle.search.specs.Singles.{BestLane, Tried, turn_of}

-- ---- turns

-- every candidate but the empty one has its turn
pub has_turn : (i : ℕ) → 0 < i → i < 8 → (j : ℕ) × (j < 7) × (turn_of j ≡ i)
unfolding turn_of
has_turn zero p l = absurd (omega arith)
has_turn (suc zero) p l = (0, omega arith, refl)
has_turn (suc (suc zero)) p l = (1, omega arith, refl)
has_turn (suc (suc (suc zero))) p l = (3, omega arith, refl)
has_turn (suc (suc (suc (suc zero)))) p l = (2, omega arith, refl)
has_turn (suc (suc (suc (suc (suc k))))) p l = (suc (suc (suc (suc k))), omega arith, refl)

-- by the branches of the program
pub turn_2 : (k r : ℕ) → k ≡ 2 → r ≡ 4 → r ≡ turn_of k
unfolding turn_of
turn_2 k r e d = d ∙ ap turn_of (sym e)

pub turn_3 : (k r : ℕ) → k ≡ 3 → r ≡ 3 → r ≡ turn_of k
unfolding turn_of
turn_3 k r e d = d ∙ ap turn_of (sym e)

pub turn_other : (k : ℕ) → (k ≡ 2 → ⊥) → (k ≡ 3 → ⊥) → suc k ≡ turn_of k
unfolding turn_of
turn_other zero f g = refl
turn_other (suc zero) f g = refl
turn_other (suc (suc zero)) f g = absurd (f refl)
turn_other (suc (suc (suc zero))) f g = absurd (g refl)
turn_other (suc (suc (suc (suc k)))) f g = refl

-- ---- the best so far

module _ (test : ℕ → Bool) (low : List ℕ) where
  pub lane_none : BestLane test low 0 never
  lane_none = record { most = omega arith; each = λ j l _. absurd (not-suc-le-zero l); one = inl refl }

  pub lane_more : (k n best r : ℕ) → BestLane test low k best → n ≡ turn_of k → n < 8 → Tried (test n) (get_or low n 0) best r → BestLane test low (suc k) r
  lane_more k n best r h is few t = record {
    most = omega (arith, h.most, t.kept);
    each = λ j l q. each j l q (ℕ_discrete j k);
    one = one t.one;
  }
    where
      each : (j : ℕ) → j < suc k → test (turn_of j) ≡ true → Dec (j ≡ k) → r ≤ get_or low (turn_of j) 0
      each j l q (yes e) =
          let d : n ≡ turn_of j = is ∙ ap turn_of (sym e) in
          subst (λ (x : ℕ). r ≤ get_or low x 0) d (t.met (ap test d ∙ q))
      each j l q (no d) = omega (arith, h.each j (omega arith) q, t.kept)

      one : (r ≡ best) ⊎ ((test n ≡ true) × (r ≡ get_or low n 0)) → (r ≡ never) ⊎ ((i : ℕ) × (i < 8) × (test i ≡ true) × (get_or low i 0 ≡ r))
      one (inl e) = older h.one
        where
          older : (best ≡ never) ⊎ ((i : ℕ) × (i < 8) × (test i ≡ true) × (get_or low i 0 ≡ best))
              → (r ≡ never) ⊎ ((i : ℕ) × (i < 8) × (test i ≡ true) × (get_or low i 0 ≡ r))
          older (inl d) = inl (e ∙ d)
          older (inr (i, l, q, d)) = inr (i, l, q, d ∙ sym e)
      one (inr (q, e)) = inr (n, few, q, sym e)

  -- when all had their turn, the best is settled, whatever the limit
  pub lane_all : (lanes limit best : ℕ) → lanes ≤ 8 → ((i : ℕ) → lanes ≤ i → i < 8 → get_or low i 0 ≡ never) → test 0 ≡ false → BestLane test low 7 best
      → Settled (λ i. get_or low i 0) test lanes never limit best
  lane_all lanes limit best few beyond f h = record { each = λ m l t. inl (each m l t (dec_lt 0 m)); one = one h.one }
    where
      each : (m : ℕ) → m < lanes → test m ≡ true → Dec (0 < m) → best ≤ get_or low m 0
      each m l t (yes p) =
          let o = has_turn m p (omega arith) in
          subst (λ (x : ℕ). best ≤ get_or low x 0) o.2 (h.each o.0 o.1 (ap test o.2 ∙ t))
      each m l t (no p) = let z : m ≡ 0 = omega arith in absurd (true≢false (sym t ∙ ap test z ∙ f))

      one : (best ≡ never) ⊎ ((i : ℕ) × (i < 8) × (test i ≡ true) × (get_or low i 0 ≡ best))
          → (never ≤ best) ⊎ ((n : ℕ) × (n < lanes) × (test n ≡ true) × (get_or low n 0 ≡ best))
      one (inl e) = inl (omega arith)
      one (inr (i, l, q, e)) = go (dec_lt i lanes)
        where
          go : Dec (i < lanes) → (never ≤ best) ⊎ ((n : ℕ) × (n < lanes) × (test n ≡ true) × (get_or low n 0 ≡ best))
          go (yes k) = inr (i, k, q, e)
          go (no k) = inl (omega (arith, beyond i (omega arith) l))
