-- The members are switched, one by one. Assumes nothing.
use mathlib.Core.Path.{◌∙◌, ◌≡◌, ap, refl, subst, sym}
use mathlib.Core.Logic.{◌≢◌, inl, inr}
use mathlib.Core.Bool.{cond}
use mathlib.Core.List.{List}
use Prim.Native.Nat.{◌+◌, ◌-◌, ◌<◌, ℕ}
use lib.Bits.{bit_and, bit_or, bit_xor}
use lib.Count.{count_trailing_zeros}
use lib.ListN.{get_or}
use native.Mathlib.Decide.{ℕ_discrete}
use native.Mathlib.Numerals.{add-one}
use native.Mathlib.Omega.{arith}
use Rattle.atoms.specs.Sets.{Member, bit, member}
use Rattle.atoms.proofs.SetLaws.{bit_empty, bit_one, intersection_iff, union_left, union_right}
use Rattle.arrays.specs.Arrays.{OneAtom}
use Rattle.preference.specs.Candidates.{switched}
use Rattle.preference.proofs.XorLaws.{bit_xor-in, bit_xor-out}
use Rattle.lane_table.specs.LaneSets.{JustOne, word}
use Rattle.lane_table.specs.Tables.{Loaded, Stored, lane}
use Rattle.lane_table.specs.declared.lane_set.LaneSet.{LaneSet}
use Rattle.lane_table.proofs.BitLaws.{InOrOut, bit_other, bit_others, tested}
use Rattle.lane_table.proofs.LaneLaws.{lane_bit, lane_low, stored_lane}
use Rattle.lane_fixpoint.specs.Passes.{Covers}
use Rattle.lane_fixpoint.proofs.LowestLaws.{one_fits, one_small, one_trailing}
use Rattle.lanes.specs.Candidates.{Noted, Switched, Takers, number}

-- the members before j are switched; no lane has an atom outside `possible`
pub record Switching (members : List ℕ) (b : ℕ) (before table : List ℕ) (possible j : ℕ) : Type 0 where
  pub done : Switched members j b before table
  pub covers : Covers possible table

pub switching_first : (members : List ℕ) (b : ℕ) (table : List ℕ) → Switched members 0 b table table
unfolding switched
switching_first members b table = record { each = λ base t i l n e. e }

module _ (members : List ℕ) (j b : ℕ) (before table after : List ℕ) (old takers new : LaneSet)
    (one : OneAtom (get_or members j 0)) (s : Switched members j b before table)
    (olds : Loaded table (count_trailing_zeros 64 (get_or members j 0)) old) (which : Takers j b takers) (xor : JustOne old takers new)
    (stores : Stored (count_trailing_zeros 64 (get_or members j 0)) new table after) where
  set : ℕ
  set = get_or members j 0

  at : ℕ
  unfolding set
  at = count_trailing_zeros 64 set

  set_at : bit set at ≡ 1
  unfolding at
  set_at = ap (λ (x : ℕ). bit x at) (one_trailing set one) ∙ bit_one at

  set_other : (k : ℕ) → k ≢ at → bit set k ≡ 0
  unfolding at
  set_other k n = ap (λ (x : ℕ). bit x k) (one_trailing set one) ∙ bit_other at k n

  new_bit : (t i : ℕ) → bit (word new t) i ≡ bit (bit_xor (word old t) (word takers t)) i
  new_bit t i = ap (λ (x : ℕ). bit x i) (xor.each t)

  old_bit : (t i : ℕ) → t < 4 → bit (word old t) i ≡ bit (lane table t i) at
  unfolding at
  old_bit t i l = ap (λ (x : ℕ). bit x i) (olds.each t l) ∙ sym (lane_bit table t i at (one_fits set one))

  other_bit : (t i a : ℕ) → t < 4 → a < 64 → a ≢ at → bit (lane after t i) a ≡ bit (lane table t i) a
  unfolding at set
  other_bit t i a l m n = lane_bit after t i a m ∙ ap (λ (x : ℕ). bit x i) (stores.there t a l n) ∙ sym (lane_bit table t i a m)

  becomes : (t i S : ℕ) → t < 4 → bit (word new t) i ≡ bit S at → ((k : ℕ) → k ≢ at → bit (lane table t i) k ≡ bit S k) → lane after t i ≡ S
  unfolding at
  becomes t i S l f g = stored_lane at new table after stores t i S l f g (one_fits set one)

  switched_here : (t i : ℕ) → t < 4 → i < 64 → lane after t i ≡ cond (member j (number b t i)) (bit_xor (lane table t i) set) (lane table t i)
  switched_here t i l n = go (tested (number b t i) j)
    where
      S : ℕ
      S = lane table t i

      go : InOrOut (number b t i) j
          → lane after t i ≡ cond (member j (number b t i)) (bit_xor S set) S
      go (inl (e, x)) =
          rw e
          (becomes t i (bit_xor S set) l
          (new_bit t i ∙ bit_xor-in (word old t) (word takers t) i (which.each t i l n ∙ x)
          ∙ ap (λ (y : ℕ). 1 - y) (old_bit t i l) ∙ sym (bit_xor-in S set at set_at))
          (λ k ne. sym (bit_xor-out S set k (set_other k ne))))
      go (inr (e, x)) =
          rw e
          (becomes t i S l (new_bit t i ∙ bit_xor-out (word old t) (word takers t) i (which.each t i l n ∙ x) ∙ old_bit t i l) (λ k ne. refl))

  pub switching_next : Switched members (j + 1) b before after
  unfolding switched set
  switching_next = rw (add-one j) (record {
    each = λ base t i l n e.
        switched_here t i l n
        ∙ ap (λ (x : ℕ). cond (member j (number b t i)) (bit_xor x (get_or members j 0)) x) (s.each base t i l n e);
  })

  -- what some lane may have
  pub noted_next : (have r : ℕ) → Covers have table → Noted have (get_or members j 0) new r → Covers r after
  unfolding at set
  noted_next have r c (inr e) = record { each = λ t i l n a m. subst (Member a) (sym e) (go t i l n a m (ℕ_discrete a at)) }
    where
      go : (t i : ℕ) → t < 4 → i < 64 → (a : ℕ) → Member a (lane after t i) → Dec (a ≡ at) → Member a (bit_or have set)
      go t i l n a m (yes q) = union_right have set a (subst (λ (x : ℕ). Member x set) (sym q) set_at)
      go t i l n a m (no q) = union_left have set a (c.each t i l n a (sym (other_bit t i a l (lane_low after t i a m) q) ∙ m))
  noted_next have r c (inl (none, e)) = record { each = λ t i l n a m. subst (Member a) (sym e) (go t i l n a m (ℕ_discrete a at)) }
    where
      go : (t i : ℕ) → t < 4 → i < 64 → (a : ℕ) → Member a (lane after t i) → Dec (a ≡ at) → Member a (bit_and have (0xffffffffffffffff - set))
      go t i l n a m (yes q) =
          let z : bit (lane after t i) at ≡ 0
          = lane_bit after t i at (one_fits set one) ∙ ap (λ (x : ℕ). bit x i) (stores.here t l ∙ none t) ∙ bit_empty i in
          let y : bit (lane after t i) at ≡ 1 = subst (λ (x : ℕ). Member x (lane after t i)) q m in
          absurd (omega arith)
      go t i l n a m (no q) =
          (intersection_iff have (0xffffffffffffffff - set) a).1 (
            c.each t i l n a (sym (other_bit t i a l (lane_low after t i a m) q) ∙ m),
            omega (arith, bit_others set a (one_small set one) (lane_low after t i a m), set_other a q),
          )
