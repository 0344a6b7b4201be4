-- The written form before R-4, what the gate answered under it, and what R-4 leaves of that, in the order of reading.
pub mod FormerForm
pub mod FormerTest
pub mod FormerAnswers
pub mod Theorems
