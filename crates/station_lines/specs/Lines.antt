-- The station program: the line of an opening, that of a round, and that of a preview. Assumes nothing.
use Rattle.std.specs.Prelude.{List, ◌++◌, ℕ}
use Rattle.std.proofs.Math.Option.{Option, none, some}
use Rattle.rounds.specs.Moves.{Move}
use Rattle.rounds.specs.Refusals.{Refusal}
use Rattle.rounds.specs.Rounds.{Answer}
use Rattle.rounds.specs.Sessions.{Session}
use Rattle.previews.specs.Previews.{Preview}
use Rattle.transcript.specs.Lines.{answer_text, line, refused_text}
use Rattle.transcript.specs.Numerals.{ascii, decimal}

-- the slot's number in decimal, a space, and the line
abbrev pub slot_line : ℕ → List ℕ → List ℕ
slot_line i xs = decimal i ++ (ascii " " ++ line xs)

-- "opened" for an opening that is not refused
abbrev pub opening_text : Option Refusal → List ℕ
opening_text none = ascii "opened"
opening_text (some f) = refused_text f

-- at slot i
unfoldable pub opening_line : ℕ → Option Refusal → List ℕ
opening_line i a = slot_line i (opening_text a)

-- at slot i, the bench program's line of a round, with the count after it
unfoldable pub round_at_line : ℕ → Move → Answer → ℕ → List ℕ
round_at_line i m a count = slot_line i (answer_text count m a)

-- the count of the session that a preview gives; a preview that gives none is of a refused round, whose line has no count
abbrev pub count_of : Option Session → ℕ
count_of none = 0
count_of (some s) = s.count

-- at slot i, the word, and what the round would print after the slot's number
unfoldable pub preview_line : ℕ → Move → Preview → List ℕ
preview_line i m v = slot_line i (ascii "preview " ++ answer_text (count_of v.session) m v.answer)
