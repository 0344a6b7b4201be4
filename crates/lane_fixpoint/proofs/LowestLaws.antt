-- The atom of a set of one atom: its lowest bit. Assumes nothing.
use mathlib.Core.Path.{◌∙◌, ◌≡◌, ap, subst, sym}
use Prim.Native.Nat.{◌<◌, ◌^◌, ◌≤◌, ℕ}
use lib.Count.{count_trailing_zeros}
use lib.Pow.{pow_mono}
use native.Mathlib.Omega.{arith}
use Rattle.atoms.specs.Sets.{Member}
use Rattle.atoms.proofs.LowestLaws.{lowest_in}
use Rattle.atoms.proofs.SetLaws.{member_low, power_member, single_is}
use Rattle.arrays.specs.Arrays.{OneAtom, atom_of}
use Rattle.arrays.proofs.HeadLaws.{one_low, one_some}

-- the atom of a set of one atom
module _ (s : ℕ) (o : OneAtom s) where
  one_is : s ≡ 2 ^ atom_of s
  one_is = sym o ∙ single_is (atom_of s) (one_low s o)

  pub one_small : s < 2 ^ 64
  one_small = let most : 2 ^ atom_of s ≤ 2 ^ 63 = pow_mono (one_low s o) in omega (arith, one_is)

  own : Member (count_trailing_zeros 64 s) s
  own = (lowest_in 64 s (one_some s o) one_small).has

  pub one_fits : count_trailing_zeros 64 s < 64
  one_fits = member_low s 64 (count_trailing_zeros 64 s) one_small own

  pub one_trailing : s ≡ 2 ^ count_trailing_zeros 64 s
  one_trailing =
      let e : count_trailing_zeros 64 s ≡ atom_of s = power_member (atom_of s) (count_trailing_zeros 64 s) (subst (Member (count_trailing_zeros 64 s)) one_is own) in
      one_is ∙ ap (λ (x : ℕ). 2 ^ x) (sym e)
