-- What the answers of the policy's test mean, in the order of reading.
pub mod Types
pub mod Theorems
