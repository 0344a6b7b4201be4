-- The station program: the whole output, from the bytes of the policy file and those of the input. Assumes nothing.
use Rattle.std.specs.Prelude.{cond, ℕ, eqb, take}
use mathlib.Core.List.{List, [], ◌++◌, ◌∷◌, flat_map}
use Rattle.encoding.specs.LittleEndian.{little_endian}
use Rattle.rounds.specs.Moves.{showing}
use Rattle.slots.specs.Slots.{Slot}
use Rattle.operations.specs.Operations.{Answered, Operation, opening, opens, plays, round}
use Rattle.previews.specs.Acts.{Act, Acted, Told, acts_of, answers, does, previews, shows}
use Rattle.station_table.specs.Types.{count_at, empty_table}
use Rattle.transcript.specs.Events.{policy_bytes}
use Rattle.station_lines.specs.Lines.{opening_line, preview_line, round_at_line}

-- a record: 1 an opening, 2 a round and 3 a preview of one, the slot, the owner, and the request or the shown set. Any other is passed over.
abbrev pub act_of : List ℕ → ℕ → ℕ → ℕ → ℕ → List Act
act_of policy operation i o n =
    cond (eqb operation 1) (does (opens i o n) ∷ [])
    (cond (eqb operation 2) (does (plays policy i (showing n)) ∷ []) (cond (eqb operation 3) (previews policy i (showing n) ∷ []) []))

-- records of 5 bytes, the lower byte of the number first; a last incomplete one counts for nothing
unfoldable pub acts_in : List ℕ → List ℕ → List Act
acts_in policy [] = []
acts_in policy (x ∷ []) = []
acts_in policy (x ∷ i ∷ []) = []
acts_in policy (x ∷ i ∷ o ∷ []) = []
acts_in policy (x ∷ i ∷ o ∷ low ∷ []) = []
acts_in policy (x ∷ i ∷ o ∷ low ∷ high ∷ bytes) = act_of policy x i o (little_endian (low ∷ high ∷ [])) ++ acts_in policy bytes

-- one line for each opening or round, after which the slots are these; each is answered as such
abbrev pub operation_line : Operation → Answered → List Slot → List ℕ
operation_line (opens i o r) (opening a) ys = opening_line i a
operation_line (opens i o r) (round a) ys = []
operation_line (plays bytes i m) (opening a) ys = []
operation_line (plays bytes i m) (round a) ys = round_at_line i m a (count_at ys i)

-- and for each preview
abbrev pub line_of : Act → Told → List Slot → List ℕ
line_of (does x) (answers a) ys = operation_line x a ys
line_of (does x) (shows v) ys = []
line_of (previews bytes i m) (answers a) ys = []
line_of (previews bytes i m) (shows v) ys = preview_line i m v

abbrev pub acted_line : Acted → List ℕ
acted_line t = line_of t.takes t.gives.answer t.gives.table

-- of these on a list, one after another
unfoldable pub printed_by : List Slot → List Act → List ℕ
printed_by xs acts = flat_map acted_line (acts_of xs acts)

-- what is printed, from 64 empty slots
unfoldable pub station_output : List ℕ → List ℕ → List ℕ
station_output file input = printed_by empty_table (acts_in (take policy_bytes file) input)
