-- The model of a policy, in the order of reading.
pub mod Answers
pub mod Types
pub mod Theorems
