-- The laws of the program's previews, and the theorem.
pub mod TypeLaws
pub mod TheoremsProof
