-- The laws of the rules that are left, of rules followed backwards, of places and of the answer, and the theorems.
pub mod KeptLaws
pub mod AgreeLaws
pub mod ModelLaws
pub mod HeadLaws
pub mod FollowLaws
pub mod PlaceLaws
pub mod StartLaws
pub mod CompactionLaws
pub mod AnswerLaws
pub mod TheoremsProof
