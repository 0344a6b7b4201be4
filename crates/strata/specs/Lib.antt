-- Levels for rules, and loops through a negation, in the order of reading.
pub mod Strata
pub mod Loops
pub mod Theorems
