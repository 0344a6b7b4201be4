-- How many heads before a place are in a set: where what stands there goes. Assumes nothing.
use mathlib.Core.Path.{◌≡◌, ap, refl, subst}
use mathlib.Core.Bool.{Bool, cond, false, true}
use mathlib.Core.List.{List}
use Prim.Native.Nat.{◌+◌, ◌-◌, ◌<◌, ◌≤◌, suc, zero, ℕ}
use lib.Dec.{eqb}
use lib.ListN.{get_or}
use native.Mathlib.Numerals.{add-one}
use native.Mathlib.Omega.{arith}
use Rattle.validation.proofs.TestLaws.{true_eqb}
use Rattle.atoms.specs.Sets.{Member, member}
use Rattle.atoms.proofs.SetLaws.{not_in}
use Rattle.arrays.specs.Arrays.{atom_of}
use Rattle.relevance.specs.Places.{room, room_before}

module _ (R : ℕ) where
  room_test : (s : ℕ) (b : Bool) → member (atom_of s) R ≡ b → room R s ≡ cond b 1 0
  unfolding room
  room_test s b e = ap (λ (x : Bool). cond x 1 0) e

  pub room_in : (s : ℕ) → Member (atom_of s) R → room R s ≡ 1
  room_in s i = room_test s true (true_eqb i)

  pub room_out : (s : ℕ) → (Member (atom_of s) R → ⊥) → room R s ≡ 0
  room_out s n = room_test s false (ap (λ (x : ℕ). eqb x 1) (not_in R (atom_of s) n))

  pub room_most : (s : ℕ) → room R s ≤ 1
  room_most s = go (member (atom_of s) R) refl
    where
      go : (b : Bool) → member (atom_of s) R ≡ b → room R s ≤ 1
      go true e = omega (arith, room_test s true e)
      go false e = omega (arith, room_test s false e)

  module _ (heads : List ℕ) where
    pub before_none : room_before R heads 0 ≡ 0
    unfolding room_before
    before_none = refl

    pub before_next : (k : ℕ) → room_before R heads (suc k) ≡ room_before R heads k + room R (get_or heads k 0)
    unfolding room_before
    before_next k = refl

    pub before_most : (k : ℕ) → room_before R heads k ≤ k
    before_most zero = omega (arith, before_none)
    before_most (suc k) = omega (arith, before_next k, before_most k, room_most (get_or heads k 0))

    before_grows : (m k : ℕ) → room_before R heads k ≤ room_before R heads (k + m)
    before_grows zero k = let e : k ≡ k + 0 = omega arith in subst (λ (x : ℕ). room_before R heads k ≤ room_before R heads x) e (omega arith)
    before_grows (suc m) k =
        let e : suc (k + m) ≡ k + suc m = omega arith in
        subst (λ (x : ℕ). room_before R heads k ≤ room_before R heads x) e (omega (arith, before_grows m k, before_next (k + m)))

    pub before_le : (i k : ℕ) → i ≤ k → room_before R heads i ≤ room_before R heads k
    before_le i k l = go (k - i) (omega arith)
      where
        go : (m : ℕ) → i + m ≡ k → room_before R heads i ≤ room_before R heads k
        go m e = subst (λ (x : ℕ). room_before R heads i ≤ room_before R heads x) e (before_grows m i)

    -- a rule that is left goes before those that come after it
    pub before_lt : (i k : ℕ) → i < k → Member (atom_of (get_or heads i 0)) R → room_before R heads i < room_before R heads k
    before_lt i k l m = omega (arith, before_le (suc i) k l, before_next i, room_in (get_or heads i 0) m)

    -- as the program comes by them
    pub before_step : (k x y : ℕ) → x ≡ room_before R heads k → y ≡ x + room R (get_or heads k 0) → y ≡ room_before R heads (k + 1)
    before_step k x y e f = omega (arith, before_next k, ap (room_before R heads) (add-one k))
