-- Slots in bytes, and calls on a table of them, in the order of reading.
pub mod PackedSlots
pub mod Calls
pub mod TableCalls
pub mod Theorems
