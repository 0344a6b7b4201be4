-- What a list of the program's slots means. Assumes nothing.
use Rattle.std.specs.Prelude.{List, None, map, min, ℕ}
use Rattle.slots.specs.Slots as S
use Rattle.slots.specs.Slots.{slot_limit}
use Rattle.slot_steps.specs.Types.{slot_of}
use Rattle.slot_steps.specs.declared.Slot.{Slot}

abbrev pub empty_slot : Slot
empty_slot = record { holding = None }

-- "A lent list of at most 64 seats"
abbrev pub table_of : List Slot → List S.Slot
table_of xs = map slot_of xs

-- how many slots of a list of n can be named
abbrev pub slots_in : ℕ → ℕ
slots_in n = min n slot_limit
