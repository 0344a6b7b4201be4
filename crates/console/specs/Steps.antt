-- What the program's steps mean. Assumes nothing.
use Rattle.std.specs.Prelude.{None, Option as Maybe, Some, List, [], ◌∷◌, ℕ}
use Rattle.std.proofs.Math.Option.{Option, none, some}
use Rattle.session.specs.Types.{move_of, outcome_of, refusal_of, session_of}
use Rattle.transcript.specs.Events as E
use Rattle.transcript.specs.Steps as S
use Rattle.console.specs.declared.event.Event.{Event}
use Rattle.console.specs.declared.event.Event.TheVariants as event
use Rattle.console.specs.declared.reader.Reader.{Reader}
use Rattle.console.specs.declared.reader.Step.{Step}
use Rattle.console.specs.declared.stage.RecordStep.{RecordStep}
use Rattle.console.specs.declared.stage.Stage.{Stage}
use Rattle.console.specs.declared.stage.Stage.TheVariants.{Ended, Request, Rounds}

abbrev pub stage_of : Stage → S.Stage
stage_of Request = S.request
stage_of (Rounds s) = S.rounds (session_of s)
stage_of Ended = S.ended

abbrev pub half_of : Maybe ℕ → Option ℕ
half_of None = none
half_of (Some b) = some b

abbrev pub reader_of : Reader → S.Reader
reader_of r = record { stage = stage_of r.stage; half = half_of r.half }

-- an event, or none
abbrev pub events_of : Event → List E.Event
events_of event.Nothing = []
events_of (event.Unopened f) = E.unopened (refusal_of f) ∷ []
events_of (event.Played m o) = E.played (move_of m) (outcome_of o) ∷ []

abbrev pub record_step_of : RecordStep → S.RecordStep
record_step_of x = record { tells = events_of x.event; stage = stage_of x.stage }

abbrev pub step_of : Step → S.Step
step_of x = record { tells = events_of x.event; reader = reader_of x.reader }
