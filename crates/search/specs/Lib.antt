-- What the search answers, and the steps to it, in the order of reading.
pub mod Types
pub mod Candidates
pub mod Singles
pub mod Blocks
pub mod Theorems
