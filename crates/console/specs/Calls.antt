-- The bench program's calls, in the program's own types (specs/Steps says what they mean), and what they tell. Assumes nothing.
use Rattle.std.specs.Prelude.{◌≡◌, ◌↔◌, true, ℕ, take}
use mathlib.Core.List.{List, [], ◌++◌, ◌∷◌, flat_map, map}
use Rattle.lists.specs.Runs.{Turn, last, reached}
use Rattle.transcript.specs.Events as E
use Rattle.transcript.specs.Events.{events}
use Rattle.transcript.specs.Output.{output, printed}
use Rattle.transcript.specs.Steps as S
use Rattle.transcript.specs.Steps.{begun, byte_step, bytes_run, is_ended}
use Rattle.console.specs.Steps.{events_of, reader_of, step_of}
use Rattle.console.specs.declared.reader.Reader.{Reader}
use Rattle.console.specs.declared.reader.Step.{Step}

-- a call of the reader's step, which took a byte
abbrev pub turn_of : Turn ℕ Step → Turn ℕ S.Step
turn_of c = record { takes = c.takes; gives = step_of c.gives }

abbrev pub input_of : List (Turn ℕ Step) → List ℕ
input_of cs = map (λ (c : Turn ℕ Step). c.takes) cs

-- The calls were made with one policy, the first with the reader r, every later one with the reader that the one before gave back. `CallsMean` says
-- what this asks of each call.
abbrev pub Calls : List ℕ → Reader → List (Turn ℕ Step) → Type 0
Calls policy r cs = map turn_of cs ≡ bytes_run policy (reader_of r) (input_of cs)

pub record CallsMean : Type 0 where
  pub none : (policy : List ℕ) (r : Reader) → Calls policy r []
  -- the step meets its contract, and the others go on with the reader that it gave back
  pub one_more : (policy : List ℕ) (r : Reader) (c : Turn ℕ Step) (cs : List (Turn ℕ Step))
      → Calls policy r (c ∷ cs) ↔ ((step_of c.gives ≡ byte_step policy (reader_of r) c.takes) × Calls policy c.gives.reader cs)

-- what the calls tell, one after another
abbrev pub told_in : List (Turn ℕ Step) → List E.Event
told_in cs = flat_map (λ (c : Turn ℕ Step). events_of c.gives.event) cs

-- From the reader that `begin` gives, with "at most 2,305 bytes" of the file, the calls tell what is defined for the file and the bytes taken.
abbrev pub ProgramTells : Type 0
ProgramTells =
    (file : List ℕ) (r : Reader) → reader_of r ≡ begun → (cs : List (Turn ℕ Step)) → Calls (take 2305 file) r cs → told_in cs ≡ events file (input_of cs)

-- So the text of what they tell is the output that document 01 defines for them.
abbrev pub ProgramPrints : Type 0
ProgramPrints =
    (file : List ℕ) (r : Reader) → reader_of r ≡ begun → (cs : List (Turn ℕ Step)) → Calls (take 2305 file) r cs
    → printed (told_in cs) ≡ output file (input_of cs)

-- the reader that the last call gave back, or the first one
abbrev pub reader_after : Reader → List (Turn ℕ Step) → Reader
reader_after r cs = reached (λ (x : Step). x.reader) r (last cs)

-- Once `ended` says so, a program that takes no more bytes has told all there is and printed the whole output, whatever is left of the input.
abbrev pub ProgramStops : Type 0
ProgramStops =
    (file : List ℕ) (r : Reader) → reader_of r ≡ begun → (cs : List (Turn ℕ Step)) → Calls (take 2305 file) r cs
    → is_ended (reader_of (reader_after r cs)) ≡ true
    → (ys : List ℕ) → (told_in cs ≡ events file (input_of cs ++ ys)) × (printed (told_in cs) ≡ output file (input_of cs ++ ys))
