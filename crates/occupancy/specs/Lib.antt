-- What a list of the program's slots means.
pub mod Types
pub mod Theorems
