-- Single tests and the statements that they decide. Assumes nothing.
use mathlib.Core.Path.{◌≡◌, refl, sym}
use mathlib.Core.Logic.{◌⊎◌, inl, inr}
use mathlib.Core.Bool.{Bool, ◌&&◌, ◌||◌, false, not, true, true≢false}
use Prim.Native.Nat.{◌<◌, ◌≤◌, ℕ}
use lib.Dec.{eqb, leb, leb→le, ltb, ltb→lt, lt→ltb}
use Rattle.validation.specs.Statements.{Decides}
use Rattle.validation.proofs.TestLaws.{T_true, and_true, both_true, eqb_true, le_true, true_T, true_eqb}

-- two tests of one statement are equal
pub same_decision : {K : Type 0} (a b : Bool) → Decides a K → Decides b K → a ≡ b
same_decision true true d e = refl
same_decision true false d e = sym (e.1 (d.0 refl))
same_decision false true d e = d.1 (e.0 refl)
same_decision false false d e = refl

pub decides_le : (a b : ℕ) → Decides (leb a b) (a ≤ b)
decides_le a b = (λ e. leb→le a b (true_T e), le_true a b)

pub decides_lt : (a b : ℕ) → Decides (ltb a b) (a < b)
decides_lt a b = (λ e. ltb→lt a b (true_T e), λ l. T_true (ltb a b) (lt→ltb a b l))

pub decides_eq : (a b : ℕ) → Decides (eqb a b) (a ≡ b)
decides_eq a b = (eqb_true a b, true_eqb)

pub decides_not : (b : Bool) {K : Type 0} → Decides b K → Decides (not b) (K → ⊥)
decides_not true d = (λ e. absurd (true≢false (sym e)), λ f. absurd (f (d.0 refl)))
decides_not false d = (λ e k. true≢false (sym (d.1 k)), λ f. refl)

pub decides_and : (a b : Bool) {A B : Type 0} → Decides a A → Decides b B → Decides (a && b) (A × B)
decides_and a b d e = (λ t. let h = and_true a b t in (d.0 h.0, e.0 h.1), λ p. both_true (d.1 p.0) (e.1 p.1))

pub decides_or : (a b : Bool) {A B : Type 0} → Decides a A → Decides b B → Decides (a || b) (A ⊎ B)
decides_or true b d e = (λ t. inl (d.0 refl), λ p. refl)
decides_or false b {A} {B} d e = (λ t. inr (e.0 t), back)
  where
    back : A ⊎ B → b ≡ true
    back (inl x) = absurd (true≢false (sym (d.1 x)))
    back (inr y) = e.1 y
