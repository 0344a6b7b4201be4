-- What a line says, and the lines of calls.
pub mod Lines
pub mod Theorems
