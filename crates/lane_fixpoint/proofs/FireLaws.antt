-- One rule for all lanes at once is the rule for each. Assumes nothing.
use mathlib.Core.Path.{◌∙◌, ◌≡◌, ap, refl, subst, sym}
use mathlib.Core.Logic.{◌≢◌, inl, inr}
use mathlib.Core.Bool.{◌&&◌, Bool, cond, false, not, true, true≢false}
use mathlib.Core.List.{List}
use Prim.Native.Nat.{◌+◌, ◌-◌, ◌<◌, max, ℕ}
use lib.Bits.{and_le_r, bit_and}
use lib.Count.{count_trailing_zeros}
use native.Mathlib.Omega.{arith}
use Rattle.atoms.specs.Sets.{Member, bit, member, subset, union}
use Rattle.atoms.proofs.SetLaws.{bit_empty, bit_intersection, bit_lt, bit_one, bit_union, inhabited, intersection_iff, member_low}
use Rattle.arrays.specs.Arrays.{OneAtom}
use Rattle.lane_table.specs.LaneSets.{Both, Complement, Either, Empty, word}
use Rattle.lane_table.specs.Tables.{Added, Loaded, Same, Stored, cell, lane}
use Rattle.lane_table.specs.declared.lane_set.LaneSet.{LaneSet}
use Rattle.lane_table.proofs.BitLaws.{InOrOut, bit_other, bit_others, tested}
use Rattle.lane_table.proofs.LaneLaws.{lane_bit, stored_lane}
use Rattle.lane_fixpoint.specs.Firing.{Fired, FiredIn, HavingAll}
use Rattle.lane_fixpoint.proofs.LowestLaws.{one_fits, one_trailing}

module _ (k head positive : ℕ) (before after : List ℕ) (reduct body old joined rest new : LaneSet) (none : Bool)
    (one : OneAtom head)
    (reducts : Loaded before (64 + k) reduct) (holds : HavingAll before positive reduct body) (olds : Loaded before (count_trailing_zeros 64 head) old)
    (joins : Either old body joined) (stores : Stored (count_trailing_zeros 64 head) joined before after)
    (rests : Complement old rest) (meets : Both body rest new) (nothing : Empty new none) where
  at : ℕ
  at = count_trailing_zeros 64 head

  fits : at < 64
  unfolding at
  fits = one_fits head one

  head_bit : bit head at ≡ 1
  unfolding at
  head_bit = ap (λ (x : ℕ). bit x (count_trailing_zeros 64 head)) (one_trailing head one) ∙ bit_one (count_trailing_zeros 64 head)

  head_other : (j : ℕ) → j ≢ at → bit head j ≡ 0
  unfolding at
  head_other j n = ap (λ (x : ℕ). bit x j) (one_trailing head one) ∙ bit_other (count_trailing_zeros 64 head) j n

  old_bit : (t i : ℕ) → t < 4 → bit (word old t) i ≡ bit (lane before t i) at
  unfolding at
  old_bit t i l = ap (λ (x : ℕ). bit x i) (olds.each t l) ∙ sym (lane_bit before t i (count_trailing_zeros 64 head) (one_fits head one))

  joined_bit : (t i : ℕ) → bit (word joined t) i ≡ max (bit (word old t) i) (bit (word body t) i)
  joined_bit t i = ap (λ (x : ℕ). bit x i) (joins.each t) ∙ bit_union (word old t) (word body t) i

  becomes : (t i S : ℕ) → t < 4 → bit (word joined t) i ≡ bit S at
      → ((j : ℕ) → j ≢ at → bit (lane before t i) j ≡ bit S j) → lane after t i ≡ S
  unfolding at
  becomes t i S l f g = stored_lane (count_trailing_zeros 64 head) joined before after stores t i S l f g (one_fits head one)

  idle : none ≡ true → Same before after
  idle e t i l n = becomes t i (lane before t i) l (same ∙ old_bit t i l) (λ j ne. refl)
    where
      no_new : bit (bit_and (word body t) (0xffffffffffffffff - word old t)) i ≡ 0
      no_new =
          ap (λ (x : ℕ). bit x i) (ap (bit_and (word body t)) (sym (rests.each t)) ∙ sym (meets.each t) ∙ nothing.none e t)
          ∙ bit_empty i

      same : bit (word joined t) i ≡ bit (word old t) i
      same =
          omega (
            arith,
            joined_bit t i,
            no_new,
            bit_intersection (word body t) (0xffffffffffffffff - word old t) i,
            bit_others (word old t) i (rests.small t) n,
            bit_lt (word old t) i,
            bit_lt (word body t) i,
          )

  each : FiredIn k head positive before after
  each t i l n = go (tested (word body t) i)
    where
      S : ℕ
      S = lane before t i

      test : (member i (cell before t (64 + k)) && subset positive S) ≡ member i (word body t)
      test = sym (holds.each t i l n ∙ ap (λ (x : ℕ). member i x && subset positive (lane before t i)) (reducts.each t l))

      go : InOrOut (word body t) i
          → lane after t i ≡ cond (member i (cell before t (64 + k)) && subset positive S) (union S head) S
      go (inl (e, b)) =
          becomes t i (union S head) l (omega (arith, joined_bit t i, bit_union S head at, head_bit, bit_lt (word old t) i, bit_lt S at))
          (λ j ne. omega (arith, bit_union S head j, head_other j ne))
          ∙ ap (λ (b : Bool). cond b (union S head) S) (sym (test ∙ e))
      go (inr (e, b)) =
          becomes t i S l (omega (arith, joined_bit t i, old_bit t i l)) (λ j ne. refl)
          ∙ ap (λ (b : Bool). cond b (union S head) S) (sym (test ∙ e))

  -- the lane that the test found
  adds : none ≡ false → Added before after
  unfolding at
  adds e =
      let f = nothing.some e in
      let t = f.0 in
      let l = f.1.0 in
      let m = inhabited (word new t) f.1.1 in
      let i = m.0 in
      let is : word new t ≡ bit_and (word body t) (0xffffffffffffffff - word old t) = meets.each t ∙ ap (bit_and (word body t)) (rests.each t) in
      let n : i < 64
      = member_low (word new t) 64 i (omega (arith, is, and_le_r (word body t) (0xffffffffffffffff - word old t))) m.1 in
      let both = (intersection_iff (word body t) (0xffffffffffffffff - word old t) i).0 (subst (Member i) is m.1) in
      let out : bit (word old t) i ≡ 0 = omega (arith, both.1, bit_others (word old t) i (rests.small t) n, bit_lt (word old t) i) in
      let now-in : bit (word joined t) i ≡ 1 = omega (arith, joined_bit t i, both.0, bit_lt (word old t) i) in
      record {
        t = t;
        i = i;
        atom = at;
        in_word = l;
        in_lane = n;
        lacked = sym (old_bit t i l) ∙ out;
        gained = lane_bit after t i at fits ∙ ap (λ (x : ℕ). bit x i) (stores.here t l) ∙ now-in;
      }

  pub fired : Fired k head positive before after (not none)
  fired = record {
    kept = λ t j l. stores.there t (64 + j) l (λ e. omega (arith, one_fits head one));
    idle = λ e. idle (not_false none e);
    adds = λ e. adds (not_true none e);
    each = each;
  }
    where
      not_false : (b : Bool) → not b ≡ false → b ≡ true
      not_false true e = refl
      not_false false e = absurd (true≢false e)

      not_true : (b : Bool) → not b ≡ true → b ≡ false
      not_true true e = absurd (true≢false (sym e))
      not_true false e = refl
