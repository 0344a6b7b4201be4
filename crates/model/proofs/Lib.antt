-- The laws of the model's answer, and the theorems.
pub mod AnswerLaws
pub mod TypeLaws
pub mod TheoremsProof
