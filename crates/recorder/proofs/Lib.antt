-- The theorems.
pub mod TheoremsProof
