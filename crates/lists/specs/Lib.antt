-- Statements about lists, runs of steps, and sums, in the order of reading.
pub mod Lists
pub mod Each
pub mod Runs
pub mod Sums
pub mod Theorems
