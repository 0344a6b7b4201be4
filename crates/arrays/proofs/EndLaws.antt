-- Where the rules end: the levels after them change nothing. Assumes nothing.
use mathlib.Core.Path.{◌∙◌, ◌≡◌, ap, refl, subst, sym}
use mathlib.Core.Logic.{◌⊎◌, inl, inr}
use mathlib.Core.List.{List, []}
use Prim.Native.Nat.{◌+◌, ◌-◌, ◌<◌, ◌≤◌, suc, zero, ℕ}
use lib.ListN.{get_or}
use native.Mathlib.Nat.{eq-or-lt_of_le}
use native.Mathlib.Omega.{arith}
use Rattle.rules.specs.LevelByLevel.{level_by_level, settle}
use Rattle.rules.specs.Model.{closure_by, consequences, times}
use Rattle.rules.specs.Stable.{reduct}
use Rattle.rules.proofs.LoopLaws.{levels_next, levels_none}
use Rattle.arrays.specs.Arrays.{Ordered, levels_in, rules_in}

-- a loop over the levels has come to level l, which begins at place `from`
pub record Reached (levels : ℕ) (starts : List ℕ) (l from : ℕ) : Type 0 where
  pub low : l ≤ levels
  pub here : from ≡ get_or starts l 0

module _ (levels : ℕ) (starts : List ℕ) where
  pub reached_first : (from : ℕ) → from ≡ get_or starts 0 0 → Reached levels starts 0 from
  reached_first from e = record { low = omega arith; here = e }

  -- where rules are left, a level is
  pub reached_more : (l from : ℕ) → Reached levels starts l from → from < get_or starts levels 0 → l < levels
  reached_more l from r less = go (eq-or-lt_of_le r.low)
    where
      go : (l ≡ levels) ⊎ (l < levels) → l < levels
      go (inl e) = absurd (let same : get_or starts l 0 ≡ get_or starts levels 0 = ap (λ (x : ℕ). get_or starts x 0) e in omega (arith, r.here))
      go (inr i) = i

  module _ (o : Ordered levels starts) (heads positive negated : List ℕ) where
    no_rules : (S : ℕ) → settle [] S ≡ S
    unfolding settle consequences closure_by times reduct
    no_rules S = refl

    ends : (n l : ℕ) → l + n ≡ levels → get_or starts levels 0 ≤ get_or starts l 0 → (S : ℕ) → level_by_level (levels_in heads positive negated starts l n) S ≡ S
    unfolding levels_in rules_in
    ends zero l e z S = levels_none S
    ends (suc n) l e z S =
        let low : l < levels = omega arith in
        let up : get_or starts l 0 ≤ get_or starts (suc l) 0 = o.rising l low in
        let next : get_or starts (suc l) 0 ≤ get_or starts levels 0 = most n (suc l) (omega arith) in
        let none : get_or starts (suc l) 0 - get_or starts l 0 ≡ 0 = omega arith in
        levels_next (rules_in heads positive negated (get_or starts l 0) (get_or starts (suc l) 0 - get_or starts l 0)) (levels_in heads positive negated starts (suc l) n) S
        ∙ ap (level_by_level (levels_in heads positive negated starts (suc l) n))
        (ap (λ (x : ℕ). settle (rules_in heads positive negated (get_or starts l 0) x) S) none ∙ no_rules S)
        ∙ ends n (suc l) (omega arith) (omega arith) S
      where
        most : (m j : ℕ) → j + m ≡ levels → get_or starts j 0 ≤ get_or starts levels 0
        most zero j q = let same : j ≡ levels = omega arith in subst (λ (x : ℕ). get_or starts j 0 ≤ get_or starts x 0) same (omega arith)
        most (suc m) j q = omega (arith, o.rising j (omega arith), most m (suc j) (omega arith))

    pub levels_end_at : (l from : ℕ) → Reached levels starts l from → get_or starts levels 0 ≤ from → (S E : ℕ)
        → level_by_level (levels_in heads positive negated starts l (levels - l)) S ≡ E → S ≡ E
    levels_end_at l from r z S E e = sym (ends (levels - l) l (omega (arith, r.low)) (omega (arith, r.here)) S) ∙ e
