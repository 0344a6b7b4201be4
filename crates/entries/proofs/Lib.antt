-- The theorem.
pub mod TheoremsProof
