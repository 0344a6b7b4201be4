-- Slots, an opening and a round at one of them, in the order of reading.
pub mod Slots
pub mod SlotForm
pub mod Openings
pub mod RoundsAt
pub mod Meanings
pub mod Theorems
