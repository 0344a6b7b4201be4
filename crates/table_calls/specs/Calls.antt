-- A list of calls of the program's two functions on one lent list of slots, in the program's own types. Assumes nothing.
use Rattle.std.specs.Prelude.{◌≡◌, ◌↔◌, ⊤, List, [], ◌++◌, ◌∷◌, map, Ok, Result, ℕ}
use Rattle.lists.specs.Lists.{Every}
use Rattle.slots.specs.Openings.{open_at}
use Rattle.slots.specs.RoundsAt.{round_at}
use Rattle.operations.specs.AtSlot.{NotOpened, OneSession}
use Rattle.operations.specs.Operations.{AllEmpty, Fitting, Operation, Step, opening, opens, plays, round, steps_of}
use Rattle.operations.specs.Theorems.{AtMostFour, SoundSlot}
use Rattle.session.specs.Types.{move_of}
use Rattle.session.specs.declared.Move.{Move}
use Rattle.session.specs.declared.answer.Ending.{Ending}
use Rattle.slot_steps.specs.Types.{answer_of, opens_of}
use Rattle.slot_steps.specs.declared.Slot.{Slot}
use Rattle.slot_steps.specs.declared.refusal.Refusal.{Refusal}
use Rattle.occupancy.specs.Types.{table_of}

-- a call of `open_at` or of `round_at`: what it was given beside the list, what it answered, and the list that it left
pub data Call : Type 0 where
  opening_at : (slot owner request : ℕ) (answer : Result ⊤ Refusal) (leaves : List Slot) → Call
  playing_at : (policy : List ℕ) (slot : ℕ) (taken : Move) (answer : Result Ending Refusal) (leaves : List Slot) → Call

abbrev pub left_by : Call → List Slot
left_by (opening_at i o r a ys) = ys
left_by (playing_at bytes i m a ys) = ys

-- as a step of the definitions
abbrev pub step_of : Call → Step
step_of (opening_at i o r a ys) = record { takes = opens i o r; gives = record { answer = opening (opens_of a); table = table_of ys } }
step_of (playing_at bytes i m a ys) = record { takes = plays bytes i (move_of m); gives = record { answer = round (answer_of a); table = table_of ys } }

abbrev pub operation_of : Call → Operation
operation_of c = (step_of c).takes

-- The calls were made one after another, the first on the list xs, every later one on the list that the one before left. `CallsMean` says what this asks
-- of each.
abbrev pub Calls : List Slot → List Call → Type 0
Calls xs cs = map step_of cs ≡ steps_of (table_of xs) (map operation_of cs)

-- what the contract says of a call on the list xs
abbrev pub Kept : List Slot → Call → Type 0
Kept xs (opening_at i o r a ys) = (opens_of a ≡ (open_at (table_of xs) i o r).answer) × (table_of ys ≡ (open_at (table_of xs) i o r).table)
Kept xs (playing_at bytes i m a ys) =
    (answer_of a ≡ (round_at bytes (table_of xs) i (move_of m)).answer) × (table_of ys ≡ (round_at bytes (table_of xs) i (move_of m)).table)

pub record CallsMean : Type 0 where
  pub none : (xs : List Slot) → Calls xs []
  pub one_more : (xs : List Slot) (c : Call) (cs : List Call) → Calls xs (c ∷ cs) ↔ (Kept xs c × Calls (left_by c) cs)

-- What holds of every list of calls.
pub record ProgramMeets : Type 0 where
  -- "No owner has more than four unfinished sessions, over any list of openings and rounds from an all-empty list."
  pub four : (xs : List Slot) → AllEmpty (table_of xs) → (cs : List Call) → Calls xs cs → Every (λ c. AtMostFour (table_of (left_by c))) cs
  -- and every session that is held is sound
  pub sound : (xs : List Slot) → AllEmpty (table_of xs) → (cs : List Call) → Every (λ c. Fitting (operation_of c)) cs → Calls xs cs
      → Every (λ c. Every SoundSlot (table_of (left_by c))) cs
  -- "the client's bounds hold for the rounds at one seat from an opening there that was not refused to the next such"
  pub demand3 : (xs : List Slot) (before : List Call) (i o r : ℕ) (ys : List Slot) (during after : List Call)
      → (let cs = before ++ (opening_at i o r (Ok tt) ys ∷ (during ++ after)) in Every (λ c. Fitting (operation_of c)) cs → Calls xs cs
      → Every (λ c. NotOpened i (step_of c)) during → OneSession i r (map step_of during))
