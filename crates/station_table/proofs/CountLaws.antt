-- Past the slots there is no session, and its count is 0. Assumes nothing.
use mathlib.Core.Path.{◌≡◌, ap, sym}
use mathlib.Core.List.{List}
use Prim.Native.Nat.{◌≤◌, ℕ}
use lib.ListN.{get_or, get_or-eq_default, length}
use Rattle.slots.specs.Slots.{Slot, vacant}
use Rattle.operations.specs.AtSlot.{session_in}

pub none_past : (xs : List Slot) (i : ℕ) → length xs ≤ i → 0 ≡ (session_in (get_or xs i vacant)).count
none_past xs i l = sym (ap (λ (x : Slot). (session_in x).count) (get_or-eq_default xs vacant l))
