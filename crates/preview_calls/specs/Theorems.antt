-- The theorems of lists of calls with previews among them. Assumes nothing.
use Rattle.std.specs.Prelude.{◌≡◌, ◌≢◌, List, ◌++◌, ◌∷◌, map, Result, ℕ}
use Rattle.lists.specs.Lists.{Every}
use Rattle.operations.specs.Operations.{named}
use Rattle.previews.specs.Previews.{preview_at, session_at}
use Rattle.session.specs.Types.{move_of}
use Rattle.session.specs.declared.Move.{Move}
use Rattle.session.specs.declared.answer.Ending.{Ending}
use Rattle.slot_steps.specs.declared.Slot.{Slot}
use Rattle.slot_steps.specs.declared.refusal.Refusal.{Refusal}
use Rattle.slot_preview.specs.Types.{next_of, preview_of}
use Rattle.slot_preview.specs.declared.Preview.{Preview}
use Rattle.occupancy.specs.Types.{table_of}
use Rattle.table_calls.specs.Calls as T
use Rattle.table_calls.specs.Calls.{operation_of, playing_at, step_of}
use Rattle.preview_calls.specs.Calls.{Call, Calls, CallsMean, Kept, left_after, operates, previewing_at, without_previews}

pub record Theorems : Type 0 where
  pub calls : CallsMean
  -- with the previews taken out the others are calls on the same list, each with what it gave and left
  pub taken_out : (xs : List Slot) (cs : List Call) → Calls xs cs → T.Calls xs (without_previews cs)
  -- and whoever makes the same calls without previews gets the same answers and the same lists
  pub same : (xs : List Slot) (cs : List Call) → Calls xs cs → (ds : List T.Call) → T.Calls xs ds
      → map operation_of ds ≡ map operation_of (without_previews cs) → map step_of ds ≡ map step_of (without_previews cs)
  -- lists of openings and rounds are such lists, and a preview may be put in anywhere: all others stay as they are
  pub others : (xs : List Slot) (ds : List T.Call) → T.Calls xs ds → Calls xs (map operates ds)
  pub put_in : (xs : List Slot) (before after : List Call) → Calls xs (before ++ after) → (bytes : List ℕ) (i : ℕ) (m : Move) (v : Preview)
      → preview_of v ≡ preview_at bytes (table_of (left_after xs before)) i (move_of m)
      → Calls xs (before ++ (previewing_at bytes i m v (left_after xs before) ∷ after))
  -- the list after all of them is that without previews
  pub left : (xs : List Slot) (cs : List Call) → Calls xs cs → left_after xs cs ≡ left_after xs (map operates (without_previews cs))
  -- a round after a preview gives its answer, and leaves its session in the slot, whatever calls at other slots and previews come between
  pub round_after : (xs : List Slot) (bytes : List ℕ) (i : ℕ) (m : Move) (v : Preview) (ys : List Slot) → Kept xs (previewing_at bytes i m v ys)
      → (cs : List Call) → Calls ys cs → Every (λ c. named (operation_of c) ≢ i) (without_previews cs)
      → (a : Result Ending Refusal) (zs : List Slot) → T.Kept (left_after ys cs) (playing_at bytes i m a zs)
      → (a ≡ v.answer) × (next_of v.session ≡ session_at (table_of zs) i)
