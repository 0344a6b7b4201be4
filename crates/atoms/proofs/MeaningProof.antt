-- The operations on sets mean what specs/Meaning says. Assumes nothing.
use mathlib.Core.Path.{◌≡◌, subst, sym}
use mathlib.Core.Logic.{◌↔◌, ◌⊎◌, inl, inr}
use Prim.Native.Nat.{◌<◌, ◌^◌, ◌≤◌, ℕ}
use native.Mathlib.Omega.{arith}
use Rattle.encoding.proofs.ByteLaws.{little_endian-lt}
use Rattle.validation.proofs.TestLaws.{eqb_true, true_eqb}
use Rattle.atoms.specs.Atoms.{violation}
use Rattle.atoms.specs.Meaning.{Meaning}
use Rattle.atoms.specs.Sets.{Member, bit, single, union}
use Rattle.atoms.proofs.ListedLaws.{listed_iff, rising}
use Rattle.atoms.proofs.SetLaws.{difference_iff, disjoint_true, intersection_iff, member_low, none_in_empty, set_of-iff, single_cases, single_own, subset_antisym, subset_true, true_disjoint, true_subset, union_cases, union_left, union_right}
use Rattle.atoms.proofs.SizeLaws.{low_lt, size_is, size_le, size_same}

atoms : (s k : ℕ) → s < 2 ^ 64 → Member k s → k ≤ violation
atoms s k l m = omega (arith, member_low s 64 k l m)

same : (a b : ℕ) → a < 2 ^ 64 → b < 2 ^ 64 → ((k : ℕ) → k ≤ violation → Member k a ↔ Member k b) → a ≡ b
same a b l h f = subset_antisym (λ k m. (f k (atoms a k l m)).0 m) (λ k m. (f k (atoms b k h m)).1 m)

unions : (a b k : ℕ) → Member k (union a b) ↔ (Member k a ⊎ Member k b)
unions a b k = (union_cases a b k, back)
  where
    back : Member k a ⊎ Member k b → Member k (union a b)
    back (inl i) = union_left a b k i
    back (inr i) = union_right a b k i

singles : (h k : ℕ) → Member k (single h) ↔ ((k ≡ h) × (h ≤ violation))
singles h k = (single_cases h k, λ p. subst (λ (x : ℕ). Member x (single h)) (sym p.0) (single_own h p.1))

pub meaning : Meaning
meaning = record {
  same = same;
  atoms = atoms;
  credentials = λ s. (λ l k m. omega (arith, member_low s 16 k l m), λ f. low_lt s 16 (λ k m. omega (arith, f k m)));
  nothing = none_in_empty;
  singles = singles;
  lists = set_of-iff;
  unions = unions;
  intersections = intersection_iff;
  differences = difference_iff;
  members = λ k s. (eqb_true (bit s k) 1, true_eqb);
  subsets = λ a b. (subset_true a b, true_subset a b);
  disjoints = λ a b. (disjoint_true a b, true_disjoint a b);
  listed = listed_iff;
  rising = rising;
  sizes = size_is;
  grows = size_le;
  equals = size_same;
  bytes = λ bs h l. little_endian-lt 8 bs h l;
}
