-- What the test's steps and types come to.
pub mod KindLaws
pub mod WeighedLaws
pub mod LoopLaws
pub mod WholeLaws
pub mod TypeLaws
pub mod TheoremsProof
