-- What a policy's bytes say, in the order of reading.
pub mod Records
pub mod Policies
pub mod Types
pub mod Writing
pub mod Theorems
