-- What the answers of the comparison mean, in the order of reading.
pub mod Types
pub mod Theorems
