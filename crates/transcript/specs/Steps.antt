-- Document 01, "The bench program": the same events a record and a byte at a time, as the input comes, and so the same output. Assumes nothing.
use Rattle.std.specs.Prelude.{Bool, false, true, ℕ}
use mathlib.Core.List.{List, [], ◌∷◌, flat_map}
use Rattle.std.proofs.Math.Option.{Option, none, some}
use Rattle.encoding.specs.LittleEndian.{little_endian}
use Rattle.lists.specs.Runs.{Turn, last, reached, run}
use Rattle.validation.specs.Unless.{Unless, given, withheld}
use Rattle.form.specs.PolicyTest.{policy_refusal}
use Rattle.form.specs.WrittenForm as W
use Rattle.rounds.specs.Moves.{Move, showing}
use Rattle.rounds.specs.Refusals.{Refusal, of_policy}
use Rattle.rounds.specs.Rounds.{Outcome, opening, round}
use Rattle.rounds.specs.Sessions.{Session}
use Rattle.transcript.specs.Events.{Event, played, unopened}
use Rattle.transcript.specs.Output.{printed}

-- ---- a record at a time

-- "first the request, then one shown set a round"; "A refused policy or request ends the output"
pub data Stage : Type 0 where
  request : Stage
  rounds : Session → Stage
  ended : Stage

-- what a record tells, and what is awaited then
pub record RecordStep : Type 0 where
  pub tells : List Event
  pub stage : Stage

abbrev pub ending : List Event → RecordStep
ending es = record { tells = es; stage = ended }

abbrev pub opened_step : Unless Refusal Session → RecordStep
opened_step (given s) = record { tells = []; stage = rounds s }
opened_step (withheld f) = ending (unopened f ∷ [])

abbrev pub request_step : Option W.Refusal → ℕ → RecordStep
request_step none r = opened_step (opening r)
request_step (some f) r = ending (unopened (of_policy f) ∷ [])

abbrev pub round_step : Move → Outcome → RecordStep
round_step m o = record { tells = played m o ∷ []; stage = rounds o.session }

unfoldable pub record_step : List ℕ → Stage → ℕ → RecordStep
record_step policy request r = request_step (policy_refusal policy) r
record_step policy (rounds s) p = round_step (showing p) (round policy s (showing p))
record_step policy ended p = ending []

-- ---- a byte at a time

-- what is awaited, and the first byte of a record of which the second is still to come
pub record Reader : Type 0 where
  pub stage : Stage
  pub half : Option ℕ

-- before the first byte
abbrev pub begun : Reader
begun = record { stage = request; half = none }

-- the output has ended
abbrev pub is_ended_stage : Stage → Bool
is_ended_stage request = false
is_ended_stage (rounds s) = false
is_ended_stage ended = true

abbrev pub is_ended : Reader → Bool
is_ended r = is_ended_stage r.stage

-- what a byte tells, or the bytes of one read, and the reader then
pub record Step : Type 0 where
  pub tells : List Event
  pub reader : Reader

abbrev pub whole_step : RecordStep → Step
whole_step x = record { tells = x.tells; reader = record { stage = x.stage; half = none } }

abbrev pub half_step : List ℕ → Stage → Option ℕ → ℕ → Step
half_step policy s none b = record { tells = []; reader = record { stage = s; half = some b } }
half_step policy s (some low) b = whole_step (record_step policy s (little_endian (low ∷ b ∷ [])))

unfoldable pub byte_step : List ℕ → Reader → ℕ → Step
byte_step policy r b = half_step policy r.stage r.half b

-- ---- any number of bytes

-- what a list of steps tells
abbrev pub told_by : {I : Type 0} → List (Turn I Step) → List Event
told_by ts = flat_map (λ (t : Turn _ Step). t.gives.tells) ts

-- and prints
abbrev pub printed_by : {I : Type 0} → List (Turn I Step) → List ℕ
printed_by ts = printed (told_by ts)

-- a byte after another
abbrev pub bytes_run : List ℕ → Reader → List ℕ → List (Turn ℕ Step)
bytes_run policy = run (byte_step policy) (λ (x : Step). x.reader)

-- the bytes of one read
unfoldable pub read_step : List ℕ → Reader → List ℕ → Step
read_step policy r bytes =
    let ts = bytes_run policy r bytes in
    record { tells = told_by ts; reader = reached (λ (x : Step). x.reader) r (last ts) }

-- a read after another
abbrev pub reads_run : List ℕ → Reader → List (List ℕ) → List (Turn (List ℕ) Step)
reads_run policy = run (read_step policy) (λ (x : Step). x.reader)
