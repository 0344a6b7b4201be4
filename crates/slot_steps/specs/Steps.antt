-- An opening as the program does it: what it makes of one slot, apart from the list. Assumes nothing.
use Rattle.std.specs.Prelude.{[], ◌∷◌, ℕ, ltb}
use Rattle.std.proofs.Math.Option.{Option, none, some}
use Rattle.validation.specs.Tests.{first_failed}
use Rattle.validation.specs.Unless.{Unless, given, withheld}
use Rattle.rounds.specs.Refusals.{Refusal, number}
use Rattle.rounds.specs.Rounds.{opening}
use Rattle.rounds.specs.Sessions.{Session}
use Rattle.slots.specs.Slots.{Slot, held, is_free, most_unfinished}

-- what an opening answers, and the slot after it
pub record SlotOpening : Type 0 where
  pub answer : Option Refusal
  pub slot : Slot

abbrev pub take_unless : Option Refusal → Slot → Slot → SlotOpening
take_unless none x y = record { answer = none; slot = y }
take_unless (some f) x y = record { answer = some f; slot = x }

-- 15 and 16, of a slot x, where the owner has n unfinished sessions
unfoldable pub take_slot : Slot → ℕ → ℕ → Session → SlotOpening
take_slot x n o s = take_unless (first_failed ((is_free x, number 15) ∷ (ltb n most_unfinished, number 16) ∷ [])) x (held o s)

-- once the session is opened or refused
abbrev pub open_with : Unless Refusal Session → Slot → ℕ → ℕ → SlotOpening
open_with (given s) x n o = take_slot x n o s
open_with (withheld f) x n o = record { answer = some f; slot = x }

unfoldable pub open_slot : Slot → ℕ → ℕ → ℕ → SlotOpening
open_slot x n o r = open_with (opening r) x n o

abbrev pub past_with : Unless Refusal Session → Option Refusal
past_with (given s) = some (number 14)
past_with (withheld f) = some f

-- where no slot has the number
unfoldable pub past_refusal : ℕ → Option Refusal
past_refusal r = past_with (opening r)
