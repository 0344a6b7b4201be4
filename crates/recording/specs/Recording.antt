-- What the program `record_log` writes, from the bytes of the policy file and those of the input: the session's log (document 02, R-1) to standard
-- output, and the bench program's line of a refused policy or request to standard error. Assumes nothing.
use mathlib.Core.List.{List, [], flat_map}
use Rattle.std.specs.Prelude.{ℕ}
use Rattle.transcript.specs.Events.{Event, events, played, unopened}
use Rattle.transcript.specs.Lines.{refused_line}
use Rattle.session_logs.specs.RoundRecords.{round_record}
use Rattle.session_logs.specs.SessionLogs.{bytes_in}

-- "Each accepted round gives its record as 8 bytes."
abbrev pub event_record : Event → List ℕ
event_record (unopened f) = []
event_record (played m o) = bytes_in (round_record m o)

unfoldable pub logged : List Event → List ℕ
logged es = flat_map event_record es

abbrev pub event_notice : Event → List ℕ
event_notice (unopened f) = refused_line f
event_notice (played m o) = []

unfoldable pub noticed : List Event → List ℕ
noticed es = flat_map event_notice es

-- standard output
abbrev pub recorded_log : List ℕ → List ℕ → List ℕ
recorded_log file input = logged (events file input)

-- standard error
abbrev pub recorded_notice : List ℕ → List ℕ → List ℕ
recorded_notice file input = noticed (events file input)
