-- Sessions and rounds, in the order of reading.
pub mod Refusals
pub mod Sessions
pub mod Moves
pub mod RoundForm
pub mod RoundTest
pub mod Endings
pub mod Rounds
pub mod Theorems
