-- The level of an atom by its number, and the test of a rule's levels. Assumes nothing.
use mathlib.Core.Path.{◌≡◌, ap, refl, subst, sym}
use mathlib.Core.Logic.{◌⊎◌, inl, inr}
use mathlib.Core.Bool.{Bool, ◌&&◌, ◌||◌, cond, false, not, true}
use Prim.Native.Nat.{◌*◌, ◌+◌, ◌/◌, ◌<◌, ◌^◌, ◌≤◌, suc, zero, ℕ}
use lib.Dec.{leb, ltb}
use borrow.Author.Tests.{ne_eqb}
use native.Mathlib.Decide.{ℕ_discrete}
use native.Mathlib.Nat.{eq-or-lt_of_le, le_of_suc-le-suc, not-suc-le-zero}
use native.Mathlib.Omega.{arith}
use Rattle.validation.specs.Statements.{Decides}
use Rattle.validation.proofs.DecideLaws.{decides_and, decides_le, decides_lt}
use Rattle.validation.proofs.TestLaws.{and_true, both_true, eqb_true, true_eqb}
use Rattle.atoms.specs.Atoms.{violation}
use Rattle.atoms.specs.Sets.{Member, bit, member}
use Rattle.atoms.proofs.SetLaws.{member_low}
use Rattle.rules.specs.Rules.{Levelled, Rule}
use Rattle.former.specs.FormerForm.{level}
use Rattle.former.specs.FormerTest.{access_levels, for_atoms}

level_violation : (a : ℕ) → a ≡ violation → level a ≡ 8
level_violation a e = ap level e

level_other : (a : ℕ) → (a ≡ violation → ⊥) → level a ≡ a / 8
level_other a n = ap (λ (b : Bool). cond b 8 (a / 8)) (ne_eqb a violation n)

level_cases : (a : ℕ) → ((a ≡ violation) × (level a ≡ 8)) ⊎ ((a ≡ violation → ⊥) × (level a ≡ a / 8))
level_cases a = go (ℕ_discrete a violation)
  where
    go : Dec (a ≡ violation) → ((a ≡ violation) × (level a ≡ 8)) ⊎ ((a ≡ violation → ⊥) × (level a ≡ a / 8))
    go (yes e) = inl (e, level_violation a e)
    go (no n) = inr (n, level_other a n)

pub level_down : (a : ℕ) → a < violation → (8 * level a ≤ a) × (a < 8 * level a + 8)
level_down a l = let e : level a ≡ a / 8 = level_other a (λ i. omega arith) in (omega arith, omega arith)

-- the 64 atoms were on levels 0 to 8
pub level_atom : (a : ℕ) → a ≤ violation → level a < 9
level_atom a l = go (level_cases a)
  where
    go : ((a ≡ violation) × (level a ≡ 8)) ⊎ ((a ≡ violation → ⊥) × (level a ≡ a / 8)) → level a < 9
    go (inl (_, e)) = omega arith
    go (inr (_, e)) = omega arith

-- ---- a test for every atom of a set

true_for_atoms : (n s : ℕ) (f : ℕ → Bool) → ((k : ℕ) → k < n → Member k s → f k ≡ true) → for_atoms n s f ≡ true
unfolding for_atoms
true_for_atoms zero s f h = refl
true_for_atoms (suc n) s f h = both_true (go (member n s) refl) (true_for_atoms n s f (λ k l m. h k (omega arith) m))
  where
    go : (b : Bool) → member n s ≡ b → (not b || f n) ≡ true
    go true e = h n (omega arith) (eqb_true (bit s n) 1 e)
    go false e = refl

for_atoms-true : (n s : ℕ) (f : ℕ → Bool) → for_atoms n s f ≡ true → (k : ℕ) → k < n → Member k s → f k ≡ true
unfolding for_atoms
for_atoms-true zero s f e k l m = absurd (not-suc-le-zero l)
for_atoms-true (suc n) s f e k l m = go (eq-or-lt_of_le (le_of_suc-le-suc l)) (and_true _ _ e) (for_atoms-true n s f)
  where
    first : (b : Bool) → (not (member k s) || b) ≡ true → b ≡ true
    first b = rw (true_eqb m) (λ t. t)

    go : (k ≡ n) ⊎ (k < n) → ((not (member n s) || f n) ≡ true) × (for_atoms n s f ≡ true)
        → (for_atoms n s f ≡ true → (j : ℕ) → j < n → Member j s → f j ≡ true) → f k ≡ true
    go (inl p) q ih = first (f k) (subst (λ (j : ℕ). (not (member j s) || f j) ≡ true) (sym p) q.0)
    go (inr p) q ih = ih q.1 k p m

decides_atoms : (s : ℕ) → s < 2 ^ 64 → (f : ℕ → Bool) (K : ℕ → Type 0) → ((k : ℕ) → Decides (f k) (K k))
    → Decides (for_atoms 64 s f) ((k : ℕ) → Member k s → K k)
decides_atoms s l f K d = (
  λ e k m. (d k).0 (for_atoms-true 64 s f e k (member_low s 64 k l m) m),
  λ h. true_for_atoms 64 s f (λ k _ m. (d k).1 (h k m)),
)

-- ---- the test of levels

pub decides_levels : (r : Rule) → r.positive < 2 ^ 64 → r.negated < 2 ^ 64 → Decides (access_levels r) (Levelled level r)
unfolding access_levels
decides_levels r p n =
    (λ e. let h = both.0 e in record { positive = h.0; negated = h.1 }, λ l. both.1 (l.positive, l.negated))
  where
    up : ℕ → Bool
    up a = leb (level a) (level r.head)

    down : ℕ → Bool
    down a = ltb (level a) (level r.head)

    both : Decides (for_atoms 64 r.positive up && for_atoms 64 r.negated down)
        (((k : ℕ) → Member k r.positive → level k ≤ level r.head) × ((k : ℕ) → Member k r.negated → level k < level r.head))
    both = decides_and _ _
        (decides_atoms r.positive p up (λ k. level k ≤ level r.head) (λ k. decides_le (level k) (level r.head)))
        (decides_atoms r.negated n down (λ k. level k < level r.head) (λ k. decides_lt (level k) (level r.head)))
