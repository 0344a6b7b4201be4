-- What the program's types mean. Assumes nothing.
use Rattle.std.proofs.Math.Option.{Option, none, some}
use Rattle.std.specs.Prelude.{None, Some, ℕ}
use Rattle.std.specs.Prelude as P
use Rattle.validation.specs.Unless.{Unless, given, withheld}
use Rattle.rounds.specs.Refusals.{Refusal}
use Rattle.rounds.specs.Sessions.{Session}
use Rattle.slots.specs.Slots as S
use Rattle.slot_steps.specs.Types.{slot_of}
use Rattle.packing.specs.Replies.{refusal_reply}
use Rattle.slot_steps.specs.declared.Slot.{Slot}

-- the slot that twelve bytes stand for, if they do
abbrev pub found_of : P.Option Slot → Option S.Slot
found_of (Some x) = some (slot_of x)
found_of None = none

-- an empty slot, where there is none
abbrev pub or_empty : Option S.Slot → S.Slot
or_empty none = S.vacant
or_empty (some x) = x

-- an opening at what is no slot: 7, then 8
abbrev pub no_slot_reply : Unless Refusal Session → ℕ
no_slot_reply (given s) = 8
no_slot_reply (withheld f) = refusal_reply f
