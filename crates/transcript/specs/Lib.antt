-- What the bench program reads and prints, in the order of reading.
pub mod Numerals
pub mod NumeralTheorems
pub mod Lines
pub mod Events
pub mod Output
pub mod Steps
pub mod Theorems
