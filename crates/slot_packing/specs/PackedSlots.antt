-- A slot as twelve bytes, and a table of them, which the C caller lends. Assumes nothing.
use Rattle.std.specs.Prelude.{Bool, ◌&&◌, cond, false, true, List, [], ◌++◌, ◌∷◌, ◌*◌, ◌+◌, ◌/◌, ℕ, eqb, drop, get_or, length, replicate, take}
use Rattle.std.proofs.Math.Option.{Option, map, none, some}
use Rattle.slots.specs.Slots.{Slot, held, vacant}
use Rattle.packing.specs.Packed.{packed, unpacked}

-- "each empty or holding an owner (one byte) and a session": byte 0 is the owner, byte 1 is 1, bytes 2 to 11 are the session's; of an empty slot all are 0
unfoldable pub packed_slot : Slot → List ℕ
packed_slot vacant = replicate 12 0
packed_slot (held o s) = o ∷ 1 ∷ packed s

unfoldable pub all_zero : List ℕ → Bool
all_zero [] = true
all_zero (b ∷ bytes) = eqb b 0 && all_zero bytes

-- what stands for no slot is none
abbrev pub empty_when : Bool → Option Slot
empty_when true = some vacant
empty_when false = none

abbrev pub empty_in : List ℕ → Option Slot
empty_in bytes = empty_when (all_zero bytes)

abbrev pub held_in : List ℕ → Option Slot
held_in bytes = map (held (get_or bytes 0 0)) (unpacked (drop 2 bytes))

-- the slot that twelve bytes stand for, if they do
unfoldable pub unpacked_slot : List ℕ → Option Slot
unpacked_slot bytes = cond (eqb (length bytes) 12) (cond (eqb (get_or bytes 1 0) 1) (held_in bytes) (empty_in bytes)) none

-- ---- a table

-- how many slots it has; what is left over at its end belongs to none
abbrev pub slots_in : List ℕ → ℕ
slots_in bytes = length bytes / 12

-- the twelve bytes of slot k
abbrev pub slot_bytes : List ℕ → ℕ → List ℕ
slot_bytes bytes k = take 12 (drop (12 * k) bytes)

-- the slot, if they stand for one
unfoldable pub slot_in : List ℕ → ℕ → Option Slot
slot_in bytes k = unpacked_slot (slot_bytes bytes k)

-- the table with the slot x in the place of slot k
unfoldable pub with_slot : List ℕ → ℕ → Slot → List ℕ
with_slot bytes k x = take (12 * k) bytes ++ (packed_slot x ++ drop (12 * k + 12) bytes)

-- the bytes of a list of slots
unfoldable pub packed_table : List Slot → List ℕ
packed_table [] = []
packed_table (x ∷ xs) = packed_slot x ++ packed_table xs
