-- What the program's previews mean.
pub mod Types
pub mod Theorems
