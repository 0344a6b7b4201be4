-- The proofs of lists of calls with previews among them, and the theorems.
pub mod CallsProof
pub mod TheoremsProof
