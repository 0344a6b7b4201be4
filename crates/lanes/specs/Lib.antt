-- 256 candidates at once, in the order of reading.
pub mod Levels
pub mod Candidates
pub mod Blocks
