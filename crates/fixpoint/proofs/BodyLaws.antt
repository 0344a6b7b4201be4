-- The test of a rule's body: one set of what is amiss. Assumes nothing.
use mathlib.Core.Path.{◌≡◌, ap₂}
use mathlib.Core.Bool.{◌&&◌, true}
use Prim.Native.Nat.{◌-◌, ℕ}
use lib.Bits.{and_le_l, and_le_r, or_add_and}
use lib.Dec.{eqb}
use native.Mathlib.Omega.{arith}
use Rattle.validation.proofs.DecideLaws.{decides_and, decides_eq, same_decision}
use Rattle.validation.proofs.TestLaws.{eqb_true, true_eqb}
use Rattle.atoms.specs.Sets.{difference, disjoint, intersection, subset, union}
use Rattle.atoms.proofs.SetLaws.{intersection_all}

union_none : (a b : ℕ) → union a b ≡ 0 → (a ≡ 0) × (b ≡ 0)
union_none a b e = (omega (arith, or_add_and a b, and_le_r a b), omega (arith, or_add_and a b, and_le_l a b))

-- nothing is amiss where none of n is in B and all of p is in S
pub nothing_amiss : (n B p S : ℕ) → eqb (union (intersection n B) (difference p S)) 0 ≡ (disjoint n B && subset p S)
nothing_amiss n B p S = same_decision {K = (intersection n B ≡ 0) × (intersection p S ≡ p)} _ _ (forth, back) (decides_and _ _ (decides_eq _ 0) (decides_eq _ p))
  where
    forth : eqb (union (intersection n B) (difference p S)) 0 ≡ true → (intersection n B ≡ 0) × (intersection p S ≡ p)
    forth e = let z = union_none _ _ (eqb_true _ 0 e) in (z.0, intersection_all p S z.1)

    back : (intersection n B ≡ 0) × (intersection p S ≡ p) → eqb (union (intersection n B) (difference p S)) 0 ≡ true
    back h = let none : p - intersection p S ≡ 0 = omega (arith, h.1) in true_eqb (ap₂ union h.0 none)
