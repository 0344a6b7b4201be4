-- What the bench program's types mean, in the order of reading.
pub mod Steps
pub mod Calls
pub mod Theorems
