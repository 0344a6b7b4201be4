-- The laws of sets of one atom, and of rules for all lanes at once.
pub mod LowestLaws
pub mod BodyLaws
pub mod FireLaws
pub mod StepLaws
pub mod SatisfiedLaws
pub mod ReduceLaws
pub mod PassLaws
pub mod CloseLaws
pub mod TheoremsProof
