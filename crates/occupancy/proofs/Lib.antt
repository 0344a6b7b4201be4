-- The laws of a list of slots, and the theorem.
pub mod ListLaws
pub mod TheoremsProof
