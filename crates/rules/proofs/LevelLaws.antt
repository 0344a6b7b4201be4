-- Levels may be any whole numbers, since the 64 atoms have at most 64 different ones: an atom's rank, the number of atoms
-- on lower levels, serves as its level and is below 64. Assumes nothing.
use mathlib.Core.Path.{◌≡◌, subst}
use mathlib.Core.Logic.{◌⊎◌, inl, inr}
use mathlib.Core.List.{List}
use Prim.Native.Nat.{◌+◌, ◌-◌, ◌<◌, ◌≤◌, min, suc, zero, ℕ}
use native.Mathlib.Nat.{eq-or-lt_of_le, le_of_suc-le-suc, not-suc-le-zero}
use native.Mathlib.Omega.{arith}
use Rattle.lists.proofs.ListLaws.{every_imp}
use Rattle.lists.specs.Lists.{Every}
use Rattle.atoms.proofs.SetLaws.{member_low}
use Rattle.rules.specs.Model.{model}
use Rattle.rules.specs.Rules.{Rule, Stratified}
use Rattle.rules.specs.Stable.{OneStable}
use Rattle.rules.proofs.StratifiedLaws.{Ranked, one_stable}

module _ (lev : ℕ → ℕ) where
  -- how many of the atoms below n are on a level below l
  below : ℕ → ℕ → ℕ
  below zero l = 0
  below (suc n) l = min 1 (l - lev n) + below n l

  below_mono : (n l m : ℕ) → l ≤ m → below n l ≤ below n m
  unfolding below
  below_mono zero l m h = omega arith
  below_mono (suc n) l m h = omega (arith, below_mono n l m h)

  below_strict : (n l m a : ℕ) → a < n → l ≤ lev a → lev a < m → below n l < below n m
  unfolding below
  below_strict zero l m a i h k = absurd (not-suc-le-zero i)
  below_strict (suc n) l m a i h k = go (eq-or-lt_of_le (le_of_suc-le-suc i)) (λ j. below_strict n l m a j h k)
    where
      go : (a ≡ n) ⊎ (a < n) → (a < n → below n l < below n m) → min 1 (l - lev n) + below n l < min 1 (m - lev n) + below n m
      go (inl e) ih =
          let h' : l ≤ lev n = subst (λ (x : ℕ). l ≤ lev x) e h in
          let k' : lev n < m = subst (λ (x : ℕ). lev x < m) e k in
          omega (arith, below_mono n l m (omega arith))
      go (inr j) ih = omega (arith, ih j)

  below_most : (n l : ℕ) → below n l ≤ n
  unfolding below
  below_most zero l = omega arith
  below_most (suc n) l = omega (arith, below_most n l)

  pub rank : ℕ → ℕ
  rank k = below 64 (lev k)

  pub ranked : (r : Rule) → Stratified lev r → Ranked rank 63 r
  unfolding rank
  ranked r h = record {
    levelled = record {
      positive = λ k m. below_mono 64 (lev k) (lev r.head) (h.levelled.positive k m);
      negated = λ k m.
          below_strict 64 (lev k) (lev r.head) k (member_low r.negated 64 k h.sized m) (omega arith) (h.levelled.negated k m);
    };
    bounded =
        let own : below 64 (lev r.head) < below 64 (suc (lev r.head))
        = below_strict 64 (lev r.head) (suc (lev r.head)) r.head (omega (arith, h.headed)) (omega arith) (omega arith) in
        omega (arith, below_most 64 (suc (lev r.head)));
    headed = h.headed;
  }

  -- rules that have levels at all have one stable set over every C: the model
  pub one_stable_any : (rs : List Rule) → Every (Stratified lev) rs → (C : ℕ) → OneStable rs C (model rs C)
  unfolding model
  one_stable_any rs h C = one_stable rank 63 C rs (every_imp (Stratified lev) (Ranked rank 63) ranked rs h)
