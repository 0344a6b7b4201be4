-- What the program's slots and answers mean: the papers' number and values for each case. Assumes nothing.
use Rattle.std.specs.Prelude.{Err, List, None, Ok, Option, Result, Some, ◌<◌, ◌^◌, ℕ}
use Rattle.std.proofs.Math.Option as Math
use Rattle.encoding.specs.LittleEndian.{Bytes}
use Rattle.rounds.specs.Moves.{Move}
use Rattle.rounds.specs.Refusals as R
use Rattle.rounds.specs.Rounds as O
use Rattle.slots.specs.RoundsAt.{SlotTurn}
use Rattle.slots.specs.Slots as S
use Rattle.slots.specs.Theorems.{Fits}
use Rattle.session.specs.Types as session
use Rattle.session.specs.declared.answer.Ending.{Ending}
use Rattle.slot_steps.specs.Steps.{SlotOpening}
use Rattle.slot_steps.specs.declared.Holding.{Holding}
use Rattle.slot_steps.specs.declared.Slot.{Slot}
use Rattle.slot_steps.specs.declared.refusal.Refusal.{Refusal}
use Rattle.slot_steps.specs.declared.refusal.Refusal.TheVariants as refusal
use Rattle.slot_steps.specs.declared.round.Turn.{Turn}

-- "each empty or holding an owner (one byte) and a session"
abbrev pub holding_of : Option Holding → S.Slot
holding_of None = S.vacant
holding_of (Some h) = S.held h.owner (session.session_of h.session)

abbrev pub slot_of : Slot → S.Slot
slot_of x = holding_of x.holding

-- "14, the seat's number, from 0, is past the list's end or above 63; 15, seat holds an unfinished session (fresh or waiting); 16, owner has four or more."
abbrev pub refusal_of : Refusal → R.Refusal
refusal_of (refusal.Session f) = session.refusal_of f
refusal_of refusal.NoSlot = R.number 14
refusal_of refusal.Unfinished = R.number 15
refusal_of refusal.Full = R.number 16

-- "A round is accepted if it ends in grant, deny or a question"; any other is refused
abbrev pub answer_of : Result Ending Refusal → O.Answer
answer_of (Ok e) = O.ends (session.ending_of e)
answer_of (Err f) = O.refused (refusal_of f)

-- the refusal of an opening, if there is one
abbrev pub opens_of : {T : Type 0} → Result T Refusal → Math.Option R.Refusal
opens_of (Ok x) = Math.none
opens_of (Err f) = Math.some (refusal_of f)

abbrev pub turn_of : Turn → SlotTurn
turn_of t = record { answer = answer_of t.answer; slot = slot_of t.slot }

-- of an opening at slot x: the slot after it, which is x where the opening is refused
abbrev pub opening_of : S.Slot → Result Slot Refusal → SlotOpening
opening_of x (Ok y) = record { answer = Math.none; slot = slot_of y }
opening_of x (Err f) = record { answer = Math.some (refusal_of f); slot = x }

-- what the types of a policy, a slot and a move say of them: bytes, and sets of credentials
pub record Typed (bytes : List ℕ) (x : S.Slot) (m : Move) : Type 0 where
  pub policy : Bytes bytes
  pub slot : Fits x
  pub shows : m.shows < 2 ^ 16
