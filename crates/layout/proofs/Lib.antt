-- The laws of reading rules into arrays, and the theorem.
pub mod ListedLaws
pub mod AccessLaws
pub mod TheoremsProof
