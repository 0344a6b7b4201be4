-- What gate_open_at, gate_round_at and gate_preview_at reply, and what they leave in the memory that they are lent. Assumes nothing.
use Rattle.std.specs.Prelude.{Bool, ◌&&◌, cond, false, true, List, [], ◌++◌, ◌∷◌, ℕ, ltb}
use Rattle.std.proofs.Math.Option.{Option, none, some}
use Rattle.lists.specs.Sums.{sum}
use Rattle.validation.specs.Tests.{first_failed, relabelled}
use Rattle.rounds.specs.Moves.{showing}
use Rattle.rounds.specs.Refusals.{Refusal, number}
use Rattle.rounds.specs.RoundTest.{request_tests}
use Rattle.rounds.specs.Rounds.{Answer, ends, refused}
use Rattle.rounds.specs.Sessions.{opened}
use Rattle.slots.specs.RoundsAt.{SlotTurn, refused_by, slot_round}
use Rattle.slots.specs.Slots.{Slot, held, is_free, most_unfinished, slot_limit, unfinished_of, vacant}
use Rattle.packing.specs.Exports.{Call}
use Rattle.packing.specs.Replies.{answer_reply, done, refusal_reply}
use Rattle.slot_packing.specs.PackedSlots.{packed_slot, slot_in, slots_in, with_slot}

-- slot i is neither "past the list's end" nor "above 63"
abbrev pub named : List ℕ → ℕ → Bool
named bytes i = ltb i (slots_in bytes) && ltb i slot_limit

-- ---- an opening

abbrev pub is_slot : Option Slot → Bool
is_slot none = false
is_slot (some x) = true

abbrev pub is_free_in : Option Slot → Bool
is_free_in none = false
is_free_in (some x) = is_free x

-- 1 for the owner's unfinished session, else 0; what is no slot is nobody's
unfoldable pub count_in : ℕ → Option Slot → ℕ
count_in o none = 0
count_in o (some x) = unfinished_of o x

-- how many the slots below n hold
unfoldable pub unfinished_in : ℕ → List ℕ → ℕ → ℕ
unfinished_in o bytes n = sum (λ k. count_in o (slot_in bytes k)) n

-- "Opening tests 7, 14, 15, 16": slot i, owner o, request r; what is no slot is 8, after 14
abbrev pub open_at_tests : List ℕ → ℕ → ℕ → ℕ → List (Bool × ℕ)
open_at_tests bytes i o r =
    request_tests r
    ++ ((named bytes i, 14)
    ∷ (is_slot (slot_in bytes i), 8)
    ∷ (is_free_in (slot_in bytes i), 15)
    ∷ (ltb (unfinished_in o bytes slot_limit) most_unfinished, 16)
    ∷ [])

unfoldable pub open_at_refusal : List ℕ → ℕ → ℕ → ℕ → Option Refusal
open_at_refusal bytes i o r = first_failed (relabelled number (open_at_tests bytes i o r))

-- of an opening that is refused or not
abbrev pub opening_reply : Option Refusal → ℕ
opening_reply none = done
opening_reply (some f) = refusal_reply f

-- "a refusal leaves the list"
abbrev pub taken_call : Option Refusal → List ℕ → ℕ → Slot → Call
taken_call none bytes i x = record { reply = done; leaves = with_slot bytes i x }
taken_call (some f) bytes i x = record { reply = refusal_reply f; leaves = bytes }

unfoldable pub open_at_call : List ℕ → ℕ → ℕ → ℕ → Call
open_at_call bytes i o r = taken_call (open_at_refusal bytes i o r) bytes i (held o (opened r))

-- ---- a round

-- "a refusal leaves the list"
abbrev pub left_at : Answer → List ℕ → ℕ → Slot → List ℕ
left_at (ends e) bytes i x = with_slot bytes i x
left_at (refused f) bytes i x = bytes

abbrev pub turn_call : List ℕ → ℕ → SlotTurn → Call
turn_call bytes i t = record { reply = answer_reply t.answer; leaves = left_at t.answer bytes i t.slot }

-- refused with the number, after the policy's test
abbrev pub turned_away : List ℕ → List ℕ → ℕ → Call
turned_away policy bytes n = record { reply = answer_reply (refused_by policy n); leaves = bytes }

-- "an empty seat as 8", and what is no slot too, "then the session as before"
abbrev pub played_at : List ℕ → List ℕ → ℕ → ℕ → Option Slot → Call
played_at policy bytes i p none = turned_away policy bytes 8
played_at policy bytes i p (some x) = turn_call bytes i (slot_round policy x (showing p))

-- "a round tests the policy, 14, then an empty seat as 8, then the session as before"
unfoldable pub round_at_call : List ℕ → List ℕ → ℕ → ℕ → Call
round_at_call policy bytes i p = cond (named bytes i) (played_at policy bytes i p (slot_in bytes i)) (turned_away policy bytes 14)

-- ---- a preview

-- refused with the number, after the policy's test; "no session is given", which is an empty slot
abbrev pub refused_turn : List ℕ → ℕ → SlotTurn
refused_turn policy n = record { answer = refused_by policy n; slot = vacant }

-- what is no slot is answered as an empty one is
abbrev pub turn_in : List ℕ → ℕ → Option Slot → SlotTurn
turn_in policy p none = refused_turn policy 8
turn_in policy p (some x) = slot_round policy x (showing p)

-- "those of the same round on a copy of the list": the answer, and the slot as the round would leave it
unfoldable pub turn_at : List ℕ → List ℕ → ℕ → ℕ → SlotTurn
turn_at policy bytes i p = cond (named bytes i) (turn_in policy p (slot_in bytes i)) (refused_turn policy 14)

-- the reply, and the twelve bytes of the slot
abbrev pub slot_call : SlotTurn → Call
slot_call t = record { reply = answer_reply t.answer; leaves = packed_slot t.slot }

-- what it leaves are the twelve bytes of the preview; "and the list itself is left"
unfoldable pub preview_at_call : List ℕ → List ℕ → ℕ → ℕ → Call
preview_at_call policy bytes i p = slot_call (turn_at policy bytes i p)
