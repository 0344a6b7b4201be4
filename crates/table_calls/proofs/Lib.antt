-- The proofs of lists of calls, and the theorems.
pub mod CallsProof
pub mod TheoremsProof
