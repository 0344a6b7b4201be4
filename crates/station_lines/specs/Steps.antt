-- The station program a record at a time. Assumes nothing.
use Rattle.std.specs.Prelude.{◌≡◌, cond, List, [], ◌∷◌, ℕ, eqb, get_or}
use Rattle.std.proofs.Math.Option.{Option}
use Rattle.encoding.specs.LittleEndian.{little_endian}
use Rattle.rounds.specs.Moves.{Move, showing}
use Rattle.rounds.specs.Refusals.{Refusal}
use Rattle.rounds.specs.Rounds.{Answer}
use Rattle.slots.specs.Openings.{Reply, open_at}
use Rattle.slots.specs.RoundsAt.{round_at}
use Rattle.slots.specs.Slots.{Slot}
use Rattle.previews.specs.Previews.{Preview, preview_at}
use Rattle.occupancy.specs.Types.{table_of}
use Rattle.station_table.specs.Types.{count_at}
use Rattle.lines.specs.Lines.{Prints}
use Rattle.station_lines.specs.Lines.{opening_line, preview_line, round_at_line}
use Rattle.station_lines.specs.declared.step.Step.{Step}

-- what a record prints, and the slots after it
pub record RecordStep : Type 0 where
  pub prints : List ℕ
  pub table : List Slot

abbrev pub opening_step : ℕ → Reply (Option Refusal) → RecordStep
opening_step i g = record { prints = opening_line i g.answer; table = g.table }

abbrev pub round_step : ℕ → Move → Reply Answer → RecordStep
round_step i m g = record { prints = round_at_line i m g.answer (count_at g.table i); table = g.table }

abbrev pub preview_step : ℕ → Move → Preview → List Slot → RecordStep
preview_step i m v xs = record { prints = preview_line i m v; table = xs }

abbrev pub act_step : List ℕ → List Slot → ℕ → ℕ → ℕ → ℕ → RecordStep
act_step policy xs operation i o n =
    cond (eqb operation 1) (opening_step i (open_at xs i o n))
    (cond (eqb operation 2) (round_step i (showing n) (round_at policy xs i (showing n)))
    (cond (eqb operation 3) (preview_step i (showing n) (preview_at policy xs i (showing n)) xs) (record { prints = []; table = xs })))

-- of five bytes
unfoldable pub record_step : List ℕ → List Slot → List ℕ → RecordStep
record_step policy xs bytes =
    act_step policy xs (get_or bytes 0 0) (get_or bytes 1 0) (get_or bytes 2 0) (little_endian (get_or bytes 3 0 ∷ get_or bytes 4 0 ∷ []))

-- the program's step prints this, and leaves these slots
pub record Does (r : Step) (x : RecordStep) : Type 0 where
  pub prints : Prints r.line x.prints
  pub table : table_of r.slots ≡ x.table
