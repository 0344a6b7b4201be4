-- The laws of records, of rules and of what is written.
pub mod ReadLaws
pub mod RuleLaws
pub mod KindLaws
pub mod WritingLaws
pub mod PutLaws
pub mod TypeLaws
pub mod TheoremsProof
