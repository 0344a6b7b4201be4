-- The theorems of what `record_log` writes. Assumes nothing.
use Rattle.std.specs.Prelude.{◌≡◌, true, List, [], ◌++◌, ◌∷◌, map, ◌*◌, ◌+◌, ◌<◌, ℕ, length, take}
use Rattle.std.proofs.Math.Option.{none, some}
use Rattle.form.specs.PolicyTest.{policy_refusal}
use Rattle.form.specs.WrittenForm as W
use Rattle.rounds.specs.Moves.{showing}
use Rattle.rounds.specs.Refusals.{number, of_policy}
use Rattle.rounds.specs.Rounds.{rounds_of}
use Rattle.rounds.specs.Sessions.{Service, opened}
use Rattle.transcript.specs.Events.{input_records}
use Rattle.transcript.specs.Lines.{refused_line}
use Rattle.transcript.specs.Steps.{begun, is_ended}
use Rattle.session_logs.specs.SessionLogs.{log_of}
use Rattle.console.specs.Calls.{Calls, input_of, reader_after}
use Rattle.console.specs.Steps.{reader_of}
use Rattle.console.specs.declared.reader.Reader.{Reader}
use Rattle.recording.specs.Recording.{recorded_log, recorded_notice}
use Rattle.recording.specs.Written.{Writing, Writings, calls_of, log_in, notice_in}

-- the log and the line are these
pub record Writes (file input log notice : List ℕ) : Type 0 where
  pub output : recorded_log file input ≡ log
  pub error : recorded_notice file input ≡ notice

-- From the reader that `begin` gives, what is written of the calls is what is defined for the file and the bytes taken; and once `ended` says so it is
-- all, whatever is left of the input.
abbrev pub ProgramWrites : Type 0
ProgramWrites =
    (file : List ℕ) (r : Reader) → reader_of r ≡ begun → (ws : List Writing) → Calls (take 2305 file) r (calls_of ws) → Writings ws
    → Writes file (input_of (calls_of ws)) (log_in ws) (notice_in ws)

abbrev pub ProgramEnds : Type 0
ProgramEnds =
    (file : List ℕ) (r : Reader) → reader_of r ≡ begun → (ws : List Writing) → Calls (take 2305 file) r (calls_of ws) → Writings ws
    → is_ended (reader_of (reader_after r (calls_of ws))) ≡ true
    → (ys : List ℕ) → Writes file (input_of (calls_of ws) ++ ys) (log_in ws) (notice_in ws)

pub record Theorems : Type 0 where
  -- the log of the rounds that the bench program prints
  pub rounds : (file : List ℕ) → policy_refusal (take 2305 file) ≡ none → (low high : ℕ) → Service (low + 256 * high) → (rest : List ℕ)
      → Writes file (low ∷ high ∷ rest) (log_of (rounds_of (take 2305 file) (opened (low + 256 * high)) (map showing (input_records rest)))) []
  -- an empty log, and the line
  pub refused_policy : (file : List ℕ) (f : W.Refusal) → policy_refusal (take 2305 file) ≡ some f → (low high : ℕ) (rest : List ℕ)
      → Writes file (low ∷ high ∷ rest) [] (refused_line (of_policy f))
  pub refused_request : (file : List ℕ) → policy_refusal (take 2305 file) ≡ none → (low high : ℕ) → (Service (low + 256 * high) → ⊥) → (rest : List ℕ)
      → Writes file (low ∷ high ∷ rest) [] (refused_line (number 7))
  -- "No request record: no output"
  pub no_request : (file xs : List ℕ) → length xs < 2 → Writes file xs [] []
  -- and that the program's calls give this
  pub program : ProgramWrites
  pub ends : ProgramEnds
