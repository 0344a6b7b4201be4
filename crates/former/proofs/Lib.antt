-- The laws of the written form before R-4 and of what was answered under it.
pub mod LevelLaws
pub mod FormerLaws
pub mod AnswerLaws
pub mod TheoremsProof
