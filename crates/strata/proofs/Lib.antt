-- The laws of levels that the gate finds, and of loops through a negation.
pub mod StrataLaws
pub mod LoopLaws
pub mod TheoremsProof
