-- What a call leaves as it was: all of the table where it is refused, else all but the twelve bytes of its slot. Assumes nothing.
use mathlib.Core.Path.{◌∙◌, ◌≡◌, ap, refl}
use mathlib.Core.Logic.{◌≢◌, ◌⊎◌, inl, inr}
use mathlib.Core.Bool.{Bool, cond, false, true}
use mathlib.Core.List.{List, ◌++◌}
use mathlib.Core.Option.{Option, none, some}
use Prim.Native.Nat.{◌%◌, ◌*◌, ◌+◌, ◌-◌, ◌<◌, ◌≤◌, ℕ}
use lib.Dec.{ltb}
use lib.ListN.{get_or-append, drop, get_or, length, length-append, length-drop, length-take, take}
use lib.Seq.{get_or-append-add, get_or-drop, get_or-take}
use native.Mathlib.Omega.{arith}
use borrow.Author.Tests.{ltb-true}
use Rattle.validation.specs.Tests.{first_failed, relabelled}
use Rattle.validation.proofs.TestLaws.{and_true}
use Rattle.rounds.specs.Moves.{showing}
use Rattle.rounds.specs.Refusals.{Refusal, number}
use Rattle.rounds.specs.Rounds.{Answer, ends, refused}
use Rattle.rounds.specs.Sessions.{is_service, opened}
use Rattle.slots.specs.RoundsAt.{slot_round}
use Rattle.slots.specs.Slots.{Slot, held, slot_limit}
use Rattle.packing.specs.Replies.{answer_reply}
use Rattle.packing.proofs.ReplyLaws.{ending_clear}
use Rattle.slot_packing.specs.Calls.{left_at, named, open_at_call, open_at_refusal, played_at, round_at_call, taken_call, turned_away}
use Rattle.slot_packing.specs.PackedSlots.{packed_slot, slot_in, slots_in, with_slot}
use Rattle.slot_packing.specs.Theorems.{OthersKept}
use Rattle.slot_packing.proofs.SlotLaws.{twelve}

-- ---- one slot written

module _ (bytes : List ℕ) (i : ℕ) where
  kept_all : OthersKept bytes i bytes
  kept_all = record { as_long = refl; others = λ j h. refl }

  module _ (l : 12 * i + 12 ≤ length bytes) (x : Slot) where
    with_length : length (with_slot bytes i x) ≡ length bytes
    unfolding with_slot
    with_length = simp (length-append, length-take, length-drop, twelve) (omega arith)

    before : (j : ℕ) → j < 12 * i → get_or (with_slot bytes i x) j 0 ≡ get_or bytes j 0
    unfolding with_slot
    before j h =
        get_or-append (take (12 * i) bytes) (packed_slot x ++ drop (12 * i + 12) bytes) 0 j (simp length-take (omega arith))
        ∙ get_or-take (12 * i) bytes j 0 h

    after : (j : ℕ) → 12 * i + 12 ≤ j → get_or (with_slot bytes i x) j 0 ≡ get_or bytes j 0
    unfolding with_slot
    after j h =
        let first = take (12 * i) bytes in
        let rest = drop (12 * i + 12) bytes in
        let n = j - (12 * i + 12) in
        let a : j ≡ length first + (length (packed_slot x) + n) = simp (length-take, twelve) (omega arith) in
        let b : 12 * i + 12 + n ≡ j = omega arith in
        ap (λ (k : ℕ). get_or (first ++ (packed_slot x ++ rest)) k 0) a
        ∙ get_or-append-add first (packed_slot x ++ rest) (length (packed_slot x) + n) 0
        ∙ get_or-append-add (packed_slot x) rest n 0
        ∙ get_or-drop (12 * i + 12) bytes n 0
        ∙ ap (λ (k : ℕ). get_or bytes k 0) b

    with_others : OthersKept bytes i (with_slot bytes i x)
    with_others = record { as_long = with_length; others = λ j h. go j h }
      where
        go : (j : ℕ) → (j < 12 * i) ⊎ (12 * i + 12 ≤ j) → get_or (with_slot bytes i x) j 0 ≡ get_or bytes j 0
        go j (inl h) = before j h
        go j (inr h) = after j h

  pub room : named bytes i ≡ true → 12 * i + 12 ≤ length bytes
  room e = omega (arith, ltb-true i (slots_in bytes) (and_true (ltb i (slots_in bytes)) (ltb i slot_limit) e).0)

  -- ---- an opening

  module _ (o r : ℕ) where
    pub opening_left : (open_at_call bytes i o r).reply ≢ 0 → (open_at_call bytes i o r).leaves ≡ bytes
    unfolding open_at_call
    opening_left n = go (open_at_refusal bytes i o r) n
      where
        go : (u : Option Refusal) → (taken_call u bytes i (held o (opened r))).reply ≢ 0 → (taken_call u bytes i (held o (opened r))).leaves ≡ bytes
        go none n = absurd (n refl)
        go (some f) n = refl

    -- one that is not refused is at a slot of the table
    pub opened_named : open_at_refusal bytes i o r ≡ none → named bytes i ≡ true
    unfolding open_at_refusal first_failed relabelled
    opened_named = go _ (is_service r) (named bytes i)
      where
        go : (u : Option Refusal) (a t : Bool) → cond a (cond t u (some (number 14))) (some (number 7)) ≡ none → t ≡ true
        go u true true e = refl
        go u true false e = cc
        go u false t e = cc

    pub opening_others : OthersKept bytes i (open_at_call bytes i o r).leaves
    unfolding open_at_call
    opening_others = go (open_at_refusal bytes i o r) refl
      where
        go : (u : Option Refusal) → open_at_refusal bytes i o r ≡ u → OthersKept bytes i (taken_call u bytes i (held o (opened r))).leaves
        go none e = with_others (room (opened_named e)) (held o (opened r))
        go (some f) e = kept_all

  -- ---- a round

  module _ (policy : List ℕ) (p : ℕ) where
    pub round_left : (round_at_call policy bytes i p).reply % 256 ≢ 0 → (round_at_call policy bytes i p).leaves ≡ bytes
    unfolding round_at_call
    round_left n = go (named bytes i) (slot_in bytes i) n
      where
        of_answer : (a : Answer) (x : Slot) → answer_reply a % 256 ≢ 0 → left_at a bytes i x ≡ bytes
        of_answer (ends e) x n = absurd (n (ending_clear e))
        of_answer (refused f) x n = refl

        go : (t : Bool) (u : Option Slot) → (cond t (played_at policy bytes i p u) (turned_away policy bytes 14)).reply % 256 ≢ 0
            → (cond t (played_at policy bytes i p u) (turned_away policy bytes 14)).leaves ≡ bytes
        go true none n = refl
        go true (some x) n = of_answer (slot_round policy x (showing p)).answer (slot_round policy x (showing p)).slot n
        go false u n = refl

    pub round_others : OthersKept bytes i (round_at_call policy bytes i p).leaves
    unfolding round_at_call
    round_others = go (named bytes i) (slot_in bytes i) refl
      where
        of_answer : (a : Answer) (x : Slot) → named bytes i ≡ true → OthersKept bytes i (left_at a bytes i x)
        of_answer (ends e) x is = with_others (room is) x
        of_answer (refused f) x is = kept_all

        go : (t : Bool) (u : Option Slot) → named bytes i ≡ t → OthersKept bytes i (cond t (played_at policy bytes i p u) (turned_away policy bytes 14)).leaves
        go true none is = kept_all
        go true (some x) is = of_answer (slot_round policy x (showing p)).answer (slot_round policy x (showing p)).slot is
        go false u is = kept_all
