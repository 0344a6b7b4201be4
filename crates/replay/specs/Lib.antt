-- A whole list of rounds run by the program, in the order of reading.
pub mod Calls
pub mod Replay
pub mod Types
pub mod Theorems
