-- The theorems of the bench program's lines: over any list of calls, the lines that the program writes are the output. Assumes nothing.
use Rattle.std.specs.Prelude.{◌≡◌, true, ℕ, take}
use mathlib.Core.List.{List, ◌++◌, flat_map, map}
use Rattle.lists.specs.Lists.{Every}
use Rattle.lists.specs.Runs.{Turn}
use Rattle.transcript.specs.Output.{output, printed}
use Rattle.transcript.specs.Steps.{begun, is_ended}
use Rattle.console.specs.Calls.{Calls, input_of, reader_after}
use Rattle.console.specs.Steps.{events_of, reader_of}
use Rattle.console.specs.declared.reader.Reader.{Reader}
use Rattle.console.specs.declared.reader.Step.{Step}
use Rattle.lines.specs.Lines.{Prints, text_of}
use Rattle.lines.specs.declared.line.Line.{Line}

-- a call of the reader's step, and the line of its event
pub record Printing : Type 0 where
  pub call : Turn ℕ Step
  pub line : Line

abbrev pub calls_in : List Printing → List (Turn ℕ Step)
calls_in ps = map (λ (p : Printing). p.call) ps

-- all that is written
abbrev pub text_in : List Printing → List ℕ
text_in ps = flat_map (λ (p : Printing). text_of p.line) ps

-- each line is as `of_event` promises it
abbrev pub Printings : List Printing → Type 0
Printings ps = Every (λ (p : Printing). Prints p.line (printed (events_of p.call.gives.event))) ps

-- From the reader that `begin` gives, with "at most 2,305 bytes" of the file, the lines are the output that document 01 defines for the file and the
-- bytes taken; and once `ended` says so they are all of it, whatever is left of the input.
pub record Theorems : Type 0 where
  pub program : (file : List ℕ) (r : Reader) → reader_of r ≡ begun → (ps : List Printing) → Calls (take 2305 file) r (calls_in ps) → Printings ps
      → text_in ps ≡ output file (input_of (calls_in ps))
  pub stops : (file : List ℕ) (r : Reader) → reader_of r ≡ begun → (ps : List Printing) → Calls (take 2305 file) r (calls_in ps) → Printings ps
      → is_ended (reader_of (reader_after r (calls_in ps))) ≡ true
      → (ys : List ℕ) → text_in ps ≡ output file (input_of (calls_in ps) ++ ys)
