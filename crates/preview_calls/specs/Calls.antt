-- A list of calls of the program's three functions on one lent list of slots, in the program's own types. Assumes nothing.
use Rattle.std.specs.Prelude.{◌≡◌, ◌↔◌, List, [], ◌∷◌, ℕ}
use Rattle.previews.specs.Previews.{preview_at}
use Rattle.session.specs.Types.{move_of}
use Rattle.session.specs.declared.Move.{Move}
use Rattle.slot_steps.specs.declared.Slot.{Slot}
use Rattle.slot_preview.specs.Types.{preview_of}
use Rattle.slot_preview.specs.declared.Preview.{Preview}
use Rattle.occupancy.specs.Types.{table_of}
use Rattle.table_calls.specs.Calls as T

-- a call of `open_at` or of `round_at`, or one of `preview_at`: what it was given beside the list, what it gave, and the list that it left
pub data Call : Type 0 where
  operates : T.Call → Call
  previewing_at : (policy : List ℕ) (slot : ℕ) (taken : Move) (gives : Preview) (leaves : List Slot) → Call

abbrev pub left_by : Call → List Slot
left_by (operates c) = T.left_by c
left_by (previewing_at bytes i m v ys) = ys

-- what the contract says of a call on the list xs; that a preview leaves the list says the type of `slots`, lent for reading
abbrev pub Kept : List Slot → Call → Type 0
Kept xs (operates c) = T.Kept xs c
Kept xs (previewing_at bytes i m v ys) = (preview_of v ≡ preview_at bytes (table_of xs) i (move_of m)) × (ys ≡ xs)

-- the calls were made one after another, the first on the list xs, every later one on the list that the one before left
abbrev pub Calls : List Slot → List Call → Type 0
Calls xs [] = Unit {0}
Calls xs (c ∷ cs) = Kept xs c × Calls (left_by c) cs

-- the list after all of them
abbrev pub left_after : List Slot → List Call → List Slot
left_after xs [] = xs
left_after xs (c ∷ cs) = left_after (left_by c) cs

-- previews taken out
abbrev pub add_call : Call → List T.Call → List T.Call
add_call (operates c) ds = c ∷ ds
add_call (previewing_at bytes i m v ys) ds = ds

unfoldable pub without_previews : List Call → List T.Call
without_previews [] = []
without_previews (c ∷ cs) = add_call c (without_previews cs)

pub record CallsMean : Type 0 where
  pub none : (xs : List Slot) → Calls xs []
  pub one_more : (xs : List Slot) (c : Call) (cs : List Call) → Calls xs (c ∷ cs) ↔ (Kept xs c × Calls (left_by c) cs)
  -- a preview that gives what it has to, and leaves the list, is such a call
  pub preview : (xs : List Slot) (bytes : List ℕ) (i : ℕ) (m : Move) (v : Preview)
      → Kept xs (previewing_at bytes i m v xs) ↔ (preview_of v ≡ preview_at bytes (table_of xs) i (move_of m))
  -- previews are left out, and nothing else is
  pub no_calls : without_previews [] ≡ []
  pub call : (c : T.Call) (cs : List Call) → without_previews (operates c ∷ cs) ≡ c ∷ without_previews cs
  pub no_call : (bytes : List ℕ) (i : ℕ) (m : Move) (v : Preview) (ys : List Slot) (cs : List Call)
      → without_previews (previewing_at bytes i m v ys ∷ cs) ≡ without_previews cs
