-- What is written of an event, and the theorems.
pub mod WrittenLaws
pub mod TheoremsProof
