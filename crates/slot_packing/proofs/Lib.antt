-- The laws of packed slots, tables and calls, and the theorems.
pub mod SlotLaws
pub mod TableLaws
pub mod CallLaws
pub mod KeepLaws
pub mod UnreadLaws
pub mod ReadLaws
pub mod PreviewLaws
pub mod ListLaws
pub mod TheoremsProof
