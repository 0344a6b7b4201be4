-- What is written of the program's own records and lines, one call after another. Assumes nothing.
use Rattle.std.specs.Prelude.{◌≡◌, ℕ}
use Rattle.std.specs.Prelude as P
use mathlib.Core.List.{List, [], ◌∷◌, flat_map, map}
use Rattle.std.proofs.Math.Option.{Option, none}
use Rattle.lists.specs.Lists.{Every}
use Rattle.lists.specs.Runs.{Turn}
use Rattle.transcript.specs.Events.{Event, played, unopened}
use Rattle.console.specs.Steps.{events_of}
use Rattle.console.specs.declared.reader.Step.{Step}
use Rattle.lines.specs.Lines.{Prints, text_of}
use Rattle.lines.specs.declared.line.Line.{Line}
use Rattle.session_logs.specs.RoundRecords.{round_record}
use Rattle.session_logs.specs.SessionLogs.{bytes_in}
use Rattle.recorder.specs.Types.{logged_of}
use Rattle.recording.specs.Recording.{logged, noticed}

-- the record of what an event tells, if there is one
abbrev pub record_told : List Event → Option (List ℕ)
record_told [] = none
record_told (unopened f ∷ es) = none
record_told (played m o ∷ es) = round_record m o

-- its bytes if there is a record, else nothing
abbrev pub written_of : P.Option (List ℕ) → List ℕ
written_of r = bytes_in (logged_of r)

-- a call of the reader's step, with the record and the notice of its event
pub record Writing : Type 0 where
  pub call : Turn ℕ Step
  pub logs : P.Option (List ℕ)
  pub notices : Line

-- as `record` and `notice` promise them
pub record WrittenAs (w : Writing) : Type 0 where
  pub logs : written_of w.logs ≡ logged (events_of w.call.gives.event)
  pub notices : Prints w.notices (noticed (events_of w.call.gives.event))

abbrev pub Writings : List Writing → Type 0
Writings ws = Every WrittenAs ws

abbrev pub calls_of : List Writing → List (Turn ℕ Step)
calls_of ws = map (λ (w : Writing). w.call) ws

-- all that is written to standard output, and to standard error
abbrev pub log_in : List Writing → List ℕ
log_in ws = flat_map (λ (w : Writing). written_of w.logs) ws

abbrev pub notice_in : List Writing → List ℕ
notice_in ws = flat_map (λ (w : Writing). text_of w.notices) ws
