-- What the program's answers mean, in the order of reading.
pub mod Types
pub mod Theorems
