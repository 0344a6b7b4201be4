-- The laws of calls, and the theorems.
pub mod NumberLaws
pub mod CallsProof
pub mod TheoremsProof
