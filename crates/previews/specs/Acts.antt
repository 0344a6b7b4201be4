-- Document 02, R-6: previews among openings and rounds over one list of slots. Assumes nothing.
use Rattle.std.specs.Prelude.{◌≡◌, List, [], ◌++◌, ◌∷◌, ℕ}
use Rattle.lists.specs.Runs.{Turn, last, reached, run}
use Rattle.rounds.specs.Moves.{Move}
use Rattle.slots.specs.Openings.{Reply}
use Rattle.slots.specs.Slots.{Slot}
use Rattle.operations.specs.Operations.{Answered, Operation, Step, operate}
use Rattle.previews.specs.Previews.{Preview, preview_at}

-- an opening or a round, or the preview of a round at a slot under a policy of its own
pub data Act : Type 0 where
  does : Operation → Act
  previews : (policy : List ℕ) (slot : ℕ) (takes : Move) → Act

-- what it answers
pub data Told : Type 0 where
  answers : Answered → Told
  shows : Preview → Told

abbrev pub answered : Reply Answered → Reply Told
answered g = record { answer = answers g.answer; table = g.table }

-- on a list of slots; of a preview "the list itself is left"
abbrev pub act : List Slot → Act → Reply Told
act xs (does x) = answered (operate xs x)
act xs (previews bytes i m) = record { answer = shows (preview_at bytes xs i m); table = xs }

-- one of a list of them: what it was, what it answered, and the slots after it
abbrev pub Acted : Type 0
Acted = Turn Act (Reply Told)

-- each finds the slots as the one before left them
abbrev pub acts_of : List Slot → List Act → List Acted
acts_of = run act (λ (g : Reply Told). g.table)

-- the slots after all of them
unfoldable pub slots_after : List Slot → List Act → List Slot
slots_after xs acts = reached (λ (g : Reply Told). g.table) xs (last (acts_of xs acts))

-- ---- the openings and rounds alone

abbrev pub add_operation : Act → List Operation → List Operation
add_operation (does x) ops = x ∷ ops
add_operation (previews bytes i m) ops = ops

unfoldable pub operations_in : List Act → List Operation
operations_in [] = []
operations_in (a ∷ acts) = add_operation a (operations_in acts)

-- the same with their answers, and the slots after each
abbrev pub add_step : Act → Told → List Slot → List Step → List Step
add_step (does x) (answers a) ys ts = record { takes = x; gives = record { answer = a; table = ys } } ∷ ts
add_step (does x) (shows v) ys ts = ts
add_step (previews bytes i m) a ys ts = ts

unfoldable pub steps_in : List Acted → List Step
steps_in [] = []
steps_in (t ∷ ts) = add_step t.takes t.gives.answer t.gives.table (steps_in ts)

pub record ActsMean : Type 0 where
  -- previews are left out, and nothing else is
  pub no_operations : operations_in [] ≡ []
  pub operation : (x : Operation) (acts : List Act) → operations_in (does x ∷ acts) ≡ x ∷ operations_in acts
  pub no_operation : (bytes : List ℕ) (i : ℕ) (m : Move) (acts : List Act) → operations_in (previews bytes i m ∷ acts) ≡ operations_in acts
  -- each of the others has its own answer, and the slots that it left
  pub no_steps : steps_in [] ≡ []
  pub step : (x : Operation) (a : Answered) (ys : List Slot) (ts : List Acted)
      → steps_in (record { takes = does x; gives = record { answer = answers a; table = ys } } ∷ ts)
      ≡ record { takes = x; gives = record { answer = a; table = ys } } ∷ steps_in ts
  pub no_step : (bytes : List ℕ) (i : ℕ) (m : Move) (g : Reply Told) (ts : List Acted)
      → steps_in (record { takes = previews bytes i m; gives = g } ∷ ts) ≡ steps_in ts

-- ---- what previews leave as it is

-- a preview between others: it gives what it gives by itself on the slots as they are then, and all that comes after it is as without it
pub record Between (xs : List Slot) (before : List Act) (bytes : List ℕ) (i : ℕ) (m : Move) (after : List Act) : Type 0 where
  pub without : acts_of xs (before ++ after) ≡ acts_of xs before ++ acts_of (slots_after xs before) after
  pub with_it : acts_of xs (before ++ (previews bytes i m ∷ after))
      ≡ acts_of xs before
      ++ (record { takes = previews bytes i m; gives = record { answer = shows (preview_at bytes (slots_after xs before) i m); table = slots_after xs before } }
      ∷ acts_of (slots_after xs before) after)
