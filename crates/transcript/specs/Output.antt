-- Document 01, "The bench program": the whole output, which is the text of what there is to tell (specs/Events). Assumes nothing.
use mathlib.Core.List.{List, flat_map}
use Rattle.std.specs.Prelude.{ℕ}
use Rattle.rounds.specs.Sessions.{Session}
use Rattle.transcript.specs.Events.{Event, events, played, records_events, round_events, unopened}
use Rattle.transcript.specs.Lines.{refused_line, round_line}

-- "It prints a line a round"; "A refusal prints "refused" with its number"
abbrev pub event_text : Event → List ℕ
event_text (unopened f) = refused_line f
event_text (played m o) = round_line m o

-- one after another
unfoldable pub printed : List Event → List ℕ
printed es = flat_map event_text es

-- "It prints a line a round"; "a round after closing prints "refused 9" for each record left"
unfoldable pub round_lines : List ℕ → Session → List ℕ → List ℕ
round_lines policy s ps = printed (round_events policy s ps)

-- of the request and the shown sets
abbrev pub records_output : List ℕ → List ℕ → List ℕ
records_output policy rs = printed (records_events policy rs)

-- what is printed
unfoldable pub output : List ℕ → List ℕ → List ℕ
output file input = printed (events file input)
