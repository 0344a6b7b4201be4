-- The calls as the program makes them: past the table's end, at what is no slot, and at a slot. Assumes nothing.
use mathlib.Core.Path.{◌∙◌, ◌≡◌, ap, refl, sym}
use mathlib.Core.Bool.{Bool, ◌&&◌, cond, false, true}
use mathlib.Core.List.{List}
use mathlib.Core.Option.{Option, none, some}
use Prim.Native.Nat.{◌*◌, ◌+◌, ◌<◌, ◌≤◌, min, ℕ}
use lib.Dec.{ltb}
use lib.ListN.{length}
use native.Mathlib.Decide.{dec_le}
use native.Mathlib.Omega.{arith}
use borrow.Author.Tests.{le-ltb, lt-ltb}
use Rattle.validation.specs.Tests.{first_failed, relabelled}
use Rattle.validation.proofs.TestLaws.{both_true}
use Rattle.rounds.specs.Endings.{Ending}
use Rattle.rounds.specs.Moves.{showing}
use Rattle.rounds.specs.RoundTest.{opening_tests}
use Rattle.rounds.specs.Rounds.{ends, opening}
use Rattle.rounds.specs.Sessions.{is_service}
use Rattle.rounds.proofs.AnswerLaws.{clash}
use Rattle.slots.specs.RoundsAt.{refused_by, slot_round}
use Rattle.slots.specs.Slots.{Slot, is_free, most_unfinished, slot_limit}
use Rattle.slot_steps.specs.Steps.{SlotOpening, open_slot, past_refusal, take_slot}
use Rattle.slot_packing.specs.Calls.{named, open_at_call, open_at_refusal, opening_reply, refused_turn, taken_call, turn_at, turn_in, unfinished_in}
use Rattle.slot_packing.specs.PackedSlots.{slot_in, slots_in}
use Rattle.slot_packing.proofs.CallLaws.{ReadAs}
use Rattle.slot_packing.proofs.KeepLaws.{room}
use Rattle.slot_packing.proofs.PreviewLaws as turns
use Rattle.table_wire.specs.Types.{no_slot_reply, or_empty}
use Rattle.table_wire.proofs.CountLaws.{counted_all}

module _ (bytes : List ℕ) (i : ℕ) where
  named_true : i < min (slots_in bytes) 64 → named bytes i ≡ true
  named_true l = both_true (lt-ltb i (slots_in bytes) (omega arith)) (lt-ltb i slot_limit (omega arith))

  named_false : min (slots_in bytes) 64 ≤ i → named bytes i ≡ false
  named_false l = go (dec_le (slots_in bytes) i)
    where
      either : (a : Bool) → (a && false) ≡ false
      either true = refl
      either false = refl

      go : Dec (slots_in bytes ≤ i) → named bytes i ≡ false
      go (yes h) = rw (le-ltb i (slots_in bytes) h)
      go (no n) = rw (le-ltb i slot_limit (omega arith)) (either (ltb i (slots_in bytes)))

  -- ---- an opening

  module _ (o r : ℕ) where
    pub open_past : min (slots_in bytes) 64 ≤ i → open_at_call bytes i o r ≡ record { reply = opening_reply (past_refusal r); leaves = bytes }
    unfolding open_at_call open_at_refusal first_failed relabelled past_refusal opening opening_tests
    open_past l = go (is_service r) refl
      where
        go : (a : Bool) → is_service r ≡ a → open_at_call bytes i o r ≡ record { reply = opening_reply (past_refusal r); leaves = bytes }
        go true e = rw (named_false l, e)
        go false e = rw (named_false l, e)

    module _ (l : i < min (slots_in bytes) 64) where
      pub open_nothing : slot_in bytes i ≡ none → open_at_call bytes i o r ≡ record { reply = no_slot_reply (opening r); leaves = bytes }
      unfolding open_at_call open_at_refusal first_failed relabelled opening opening_tests
      open_nothing found = go (is_service r) refl
        where
          go : (a : Bool) → is_service r ≡ a → open_at_call bytes i o r ≡ record { reply = no_slot_reply (opening r); leaves = bytes }
          go true e = rw (named_true l, found, e)
          go false e = rw (named_true l, found, e)

      open_slot_lem : (x : Slot) (n : ℕ) → slot_in bytes i ≡ some x → unfinished_in o bytes slot_limit ≡ n → (t : SlotOpening) → t ≡ open_slot x n o r
          → open_at_call bytes i o r ≡ taken_call t.answer bytes i t.slot
      unfolding open_at_call open_at_refusal first_failed relabelled open_slot opening opening_tests take_slot
      open_slot_lem x n found count t is = rw is (go (is_service r) (is_free x) (ltb n most_unfinished) refl refl refl)
        where
          go : (a b d : Bool) → is_service r ≡ a → is_free x ≡ b → ltb n most_unfinished ≡ d
              → open_at_call bytes i o r ≡ taken_call (open_slot x n o r).answer bytes i (open_slot x n o r).slot
          go true true true e f g = rw (named_true l, found, count, e, f, g)
          go true true false e f g = rw (named_true l, found, count, e, f, g)
          go true false d e f g = rw (named_true l, found, e, f)
          go false b d e f g = rw (named_true l, found, e)

      -- with the count of the slots that can be named
      pub opened_at : (x : Slot) → slot_in bytes i ≡ some x → (slots n : ℕ) → slots ≡ min (slots_in bytes) 64 → n ≡ unfinished_in o bytes slots
          → (t : SlotOpening) → t ≡ open_slot x n o r → open_at_call bytes i o r ≡ taken_call t.answer bytes i t.slot
      opened_at x found slots n reach counted =
          open_slot_lem x n found (counted_all o bytes ∙ ap (unfinished_in o bytes) (sym reach) ∙ sym counted)

  -- ---- a round, and its preview

  module _ (policy : List ℕ) (p : ℕ) where
    pub turn_past : min (slots_in bytes) 64 ≤ i → turn_at policy bytes i p ≡ refused_turn policy 14
    turn_past l = turns.turn_past policy bytes i p (named_false l)

    pub turn_slot : i < min (slots_in bytes) 64 → (x : Slot) → x ≡ or_empty (slot_in bytes i) → turn_at policy bytes i p ≡ slot_round policy x (showing p)
    turn_slot l x e = turns.turn_named policy bytes i p x (named_true l) (rw e (go (slot_in bytes i)))
      where
        go : (u : Option Slot) → ReadAs u (or_empty u)
        go none = tt
        go (some y) = refl

    -- one that is not refused is at a slot of the table
    pub turn_room : (e : Ending) → (turn_at policy bytes i p).answer ≡ ends e → 12 * i + 12 ≤ length bytes
    unfolding turn_at refused_by
    turn_room e = go (named bytes i) refl
      where
        go : (b : Bool) → named bytes i ≡ b → (cond b (turn_in policy p (slot_in bytes i)) (refused_turn policy 14)).answer ≡ ends e → 12 * i + 12 ≤ length bytes
        go true is a = room bytes i is
        go false is a = clash (cc)
