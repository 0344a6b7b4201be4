-- What the program's sessions mean, in the order of reading.
pub mod Types
pub mod Theorems
