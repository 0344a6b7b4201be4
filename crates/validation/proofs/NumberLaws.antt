-- Statements that stand beside numbers: each number larger than the one before is given exactly where its statement is the first that is broken.
-- Assumes nothing.
use mathlib.Core.Path.{refl, subst, sym}
use mathlib.Core.Logic.{◌↔◌, inl, inr}
use mathlib.Core.List.{List, [], ◌∷◌}
use Prim.Native.Nat.{◌<◌, ◌≤◌, suc, zero, ℕ}
use lib.ListN.{length}
use native.Mathlib.Nat.{le_of_suc-le-suc, not-suc-le-zero}
use native.Mathlib.Omega.{arith}
use Rattle.lists.specs.Lists.{Every}
use Rattle.validation.specs.Statements.{FirstBroken}

-- what holds of all that stands beside the statements holds of what is given
pub broken_every : {A : Type 0} (P : A → Type 0) (ks : List (Type 0 × A)) → Every (λ k. P k.1) ks → (a : A) → FirstBroken ks a → P a
broken_every P [] h a x = absurd x
broken_every P (k ∷ ks) h a (inl (_, e)) = subst P (sym e) h.0
broken_every P (k ∷ ks) h a (inr (_, x)) = broken_every P ks h.1 a x

-- the statements before place i hold, and the one there does not
abbrev pub BrokenAt : List (Type 0 × ℕ) → ℕ → Type 0
BrokenAt [] i = ⊥
BrokenAt (k ∷ ks) zero = k.0 → ⊥
BrokenAt (k ∷ ks) (suc i) = k.0 × BrokenAt ks i

abbrev pub number_at : List (Type 0 × ℕ) → ℕ → ℕ
number_at [] i = 0
number_at (k ∷ ks) zero = k.1
number_at (k ∷ ks) (suc i) = number_at ks i

-- each number is larger than the one before, the first at least n
abbrev pub Rising : ℕ → List (Type 0 × ℕ) → Type 0
Rising n [] = Unit {0}
Rising n (k ∷ ks) = (n ≤ k.1) × Rising (suc k.1) ks

broken_least : (n : ℕ) (ks : List (Type 0 × ℕ)) → Rising n ks → (m : ℕ) → FirstBroken ks m → n ≤ m
broken_least n [] r m x = absurd x
broken_least n (k ∷ ks) r m (inl (_, e)) = omega (arith, r.0)
broken_least n (k ∷ ks) r m (inr (_, x)) = omega (arith, r.0, broken_least (suc k.1) ks r.1 m x)

pub number_least : (n : ℕ) (ks : List (Type 0 × ℕ)) → Rising n ks → (i : ℕ) → i < length ks → n ≤ number_at ks i
number_least n [] r i l = absurd (not-suc-le-zero l)
number_least n (k ∷ ks) r zero l = r.0
number_least n (k ∷ ks) r (suc i) l = omega (arith, r.0, number_least (suc k.1) ks r.1 i (le_of_suc-le-suc l))

-- the number at place i is given exactly where the statement there is the first that is broken
pub broken_at : (n : ℕ) (ks : List (Type 0 × ℕ)) → Rising n ks → (i : ℕ) → i < length ks → FirstBroken ks (number_at ks i) ↔ BrokenAt ks i
broken_at n [] r i l = absurd (not-suc-le-zero l)
broken_at n (k ∷ ks) r zero l = (forth, λ h. inl (h, refl))
  where
    forth : FirstBroken (k ∷ ks) k.1 → k.0 → ⊥
    forth (inl (h, _)) = h
    forth (inr (_, x)) = absurd (omega (arith, broken_least (suc k.1) ks r.1 k.1 x))
broken_at n (k ∷ ks) r (suc i) l = go (broken_at (suc k.1) ks r.1 i (le_of_suc-le-suc l))
  where
    go : FirstBroken ks (number_at ks i) ↔ BrokenAt ks i → FirstBroken (k ∷ ks) (number_at ks i) ↔ (k.0 × BrokenAt ks i)
    go ih = (forth, λ h. inr (h.0, ih.1 h.1))
      where
        forth : FirstBroken (k ∷ ks) (number_at ks i) → k.0 × BrokenAt ks i
        forth (inl (_, e)) = absurd (omega (arith, number_least (suc k.1) ks r.1 i (le_of_suc-le-suc l)))
        forth (inr (h, x)) = (h, ih.0 x)
