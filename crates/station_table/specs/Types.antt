-- What an opening and a round over the station's slots give. Assumes nothing.
use Rattle.std.specs.Prelude.{List, Result, ⊤, ℕ, replicate}
use Rattle.std.proofs.Math.Option.{Option}
use Rattle.rounds.specs.Refusals as R
use Rattle.rounds.specs.Rounds.{Answer}
use Rattle.slots.specs.Openings.{Reply}
use Rattle.slots.specs.Slots.{Slot, slot_at, vacant}
use Rattle.operations.specs.AtSlot.{session_in}
use Rattle.session.specs.declared.answer.Ending.{Ending}
use Rattle.slot_steps.specs.Types.{answer_of, opens_of}
use Rattle.slot_steps.specs.declared.refusal.Refusal.{Refusal}
use Rattle.occupancy.specs.Types.{table_of}
use Rattle.station_table.specs.declared.After.{After}

-- "an all-empty list"
abbrev pub empty_table : List Slot
empty_table = replicate 64 vacant

-- the count of the session that slot i holds
abbrev pub count_at : List Slot → ℕ → ℕ
count_at xs i = (session_in (slot_at xs i)).count

abbrev pub opening_of : After (Result ⊤ Refusal) → Reply (Option R.Refusal)
opening_of x = record { answer = opens_of x.answer; table = table_of x.slots }

abbrev pub round_of : After (Result Ending Refusal) → Reply Answer
round_of x = record { answer = answer_of x.answer; table = table_of x.slots }
