-- Document 01, "The bench program": the line of a round, and that of a refusal. Assumes nothing.
use Rattle.std.specs.Prelude.{List, [], ◌++◌, ℕ}
use Rattle.form.specs.WrittenForm as W
use Rattle.rounds.specs.Endings.{Ending, ask, deny, grant}
use Rattle.rounds.specs.Moves.{Move}
use Rattle.rounds.specs.Refusals.{Refusal, number, of_policy, refusal_number}
use Rattle.rounds.specs.Rounds.{Answer, Outcome, ends, refused}
use Rattle.transcript.specs.Numerals.{ascii, decimal, hexadecimal}

-- "then "ask" with four digits, or "grant", or "deny""
abbrev pub ending_text : Ending → List ℕ
ending_text (ask q) = ascii "ask " ++ hexadecimal q.asks
ending_text grant = ascii "grant"
ending_text deny = ascii "deny"

-- ""round", the count, "got", the shown set p as four lower-case hexadecimal digits"
abbrev pub got_text : ℕ → Move → List ℕ
got_text count m = ascii "round " ++ (decimal count ++ (ascii " got " ++ hexadecimal m.shows))

abbrev pub round_text : ℕ → Move → Ending → List ℕ
round_text count m e = got_text count m ++ (ascii " " ++ ending_text e)

-- "and for the policy "at" with its record number"
abbrev pub at_text : Refusal → List ℕ
at_text (of_policy f) = ascii " at " ++ decimal (W.record_number f)
at_text (number n) = []

-- "A refusal prints "refused" with its number"
abbrev pub refused_text : Refusal → List ℕ
refused_text f = ascii "refused " ++ (decimal (refusal_number f) ++ at_text f)

-- a text and the end of its line
abbrev pub line : List ℕ → List ℕ
line xs = xs ++ ascii "\n"

abbrev pub answer_text : ℕ → Move → Answer → List ℕ
answer_text count m (ends e) = round_text count m e
answer_text count m (refused f) = refused_text f

-- "It prints a line a round"
unfoldable pub round_line : Move → Outcome → List ℕ
round_line m o = line (answer_text o.session.count m o.answer)

-- of an opening or a policy that is refused
unfoldable pub refused_line : Refusal → List ℕ
refused_line f = line (refused_text f)
