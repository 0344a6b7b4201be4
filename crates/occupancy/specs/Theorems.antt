-- The theorem of lists of the program's slots. Assumes nothing.
use Rattle.std.specs.Prelude.{◌≡◌, List}
use Rattle.slot_steps.specs.declared.Slot.{Slot}
use Rattle.occupancy.specs.Types.{table_of}

pub record Theorems : Type 0 where
  -- what a list means is one-to-one, so that the contracts fix the whole list
  pub table_one : (xs ys : List Slot) → table_of xs ≡ table_of ys → xs ≡ ys
