-- The disclosable set of a policy, in the order of reading.
pub mod Disclosure
pub mod Answers
pub mod Types
pub mod Theorems
