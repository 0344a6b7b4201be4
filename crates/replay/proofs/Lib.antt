-- The proofs of the program's lists of rounds, and the theorems.
pub mod CallsProof
pub mod ReplayLaws
pub mod TypeLaws
pub mod TheoremsProof
