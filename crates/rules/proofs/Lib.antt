-- The laws of passes, closures, reducts, models and weights.
pub mod ClosureLaws
pub mod ReductLaws
pub mod LayoutLaws
pub mod MeaningLaws
pub mod BodyLaws
pub mod LeastLaws
pub mod StratifiedLaws
pub mod LevelLaws
pub mod LevelByLevelLaws
pub mod LoopLaws
pub mod UnlockLaws
pub mod WeightLaws
pub mod TheoremsProof
