-- Document 02, R-1: the log record of a round. Assumes nothing.
use Rattle.std.specs.Prelude.{List, ℕ}
use Rattle.std.proofs.Math.Option.{Option, map, none, some}
use Rattle.rounds.specs.Endings.{Ending, ask, deny, grant}
use Rattle.rounds.specs.Moves.{Move}
use Rattle.rounds.specs.Rounds.{Answer, Outcome, ends, refused}
use Rattle.demands.specs.Lists.{question_in}
use Rattle.logs.specs.Entries.{Entry, ask_answer, deny_answer, grant_answer, write_entry}

-- "answer (one byte: 1 grant, 2 deny, 3 ask)"
abbrev pub answer_number : Ending → ℕ
answer_number grant = grant_answer
answer_number deny = deny_answer
answer_number (ask q) = ask_answer

-- "shown set (that round's p, 2), answer (one byte: 1 grant, 2 deny, 3 ask), asked set (2), count of rounds (1), two zero bytes": of an accepted round,
-- after which the count is n
abbrev pub ending_entry : Move → Ending → ℕ → Entry
ending_entry m e n = record { shown = m.shows; answer = answer_number e; asked = (question_in e).asks; count = n; pad = 0 }

abbrev pub answer_entry : Move → Answer → ℕ → Option Entry
answer_entry m (ends e) n = some (ending_entry m e n)
answer_entry m (refused f) n = none

-- "Each accepted round gives its record as 8 bytes.", and a refused one none
unfoldable pub round_record : Move → Outcome → Option (List ℕ)
round_record m o = map write_entry (answer_entry m o.answer o.session.count)
