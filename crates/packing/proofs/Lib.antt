-- The laws of packed sessions, replies and calls, the examples and the theorems.
pub mod RecordLaws
pub mod ReplyLaws
pub mod SessionLaws
pub mod ListLaws
pub mod ExamplesProof
pub mod TheoremsProof
