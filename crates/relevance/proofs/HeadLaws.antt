-- Whether the head of a rule is in a set, as the program tests it. Assumes nothing.
use mathlib.Core.Path.{◌∙◌, ◌≡◌, subst, sym}
use mathlib.Core.Logic.{◌⊎◌, inl, inr}
use mathlib.Core.Bool.{false, true, true≢false}
use Prim.Native.Nat.{ℕ}
use native.Mathlib.Omega.{arith}
use Rattle.atoms.specs.Sets.{Member, bit, disjoint}
use Rattle.atoms.proofs.SetLaws.{disjoint_true, in_or_out, member_single, single_own, true_disjoint}
use Rattle.arrays.specs.Arrays.{OneAtom, atom_of}
use Rattle.arrays.proofs.HeadLaws.{one_low}

module _ (S s : ℕ) (o : OneAtom s) where
  pub head_out : disjoint S s ≡ true → Member (atom_of s) S → ⊥
  head_out e m = disjoint_true S s e (atom_of s) m (subst (Member (atom_of s)) o (single_own (atom_of s) (one_low s o)))

  pub head_in : disjoint S s ≡ false → Member (atom_of s) S
  head_in e = go (in_or_out S (atom_of s))
    where
      apart : bit S (atom_of s) ≡ 0 → (k : ℕ) → Member k S → Member k s → ⊥
      apart z k m n =
          let own : Member (atom_of s) S = subst (λ (j : ℕ). Member j S) (member_single (atom_of s) k (subst (Member k) (sym o) n)) m in
          omega arith

      go : Member (atom_of s) S ⊎ (bit S (atom_of s) ≡ 0) → Member (atom_of s) S
      go (inl i) = i
      go (inr z) = absurd (true≢false (sym (true_disjoint S s (apart z)) ∙ e))
