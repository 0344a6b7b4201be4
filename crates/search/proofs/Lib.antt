-- The laws of the search: candidates one by one, and by blocks.
pub mod SwitchLaws
pub mod SingleLaws
pub mod BlockLaws
pub mod AnswerLaws
pub mod TheoremsProof
