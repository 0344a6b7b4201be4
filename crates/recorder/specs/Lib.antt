-- What the record of a round means, in the order of reading.
pub mod Types
pub mod Theorems
