-- The written form of policies, in the order of reading.
pub mod WrittenForm
pub mod PolicyTest
pub mod Answers
pub mod Theorems
