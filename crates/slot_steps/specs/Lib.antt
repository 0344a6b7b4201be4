-- What an opening makes of one slot, and what the program's slots and answers mean, in the order of reading.
pub mod Steps
pub mod Types
pub mod Theorems
