-- What the program's steps and types come to, and the theorems.
pub mod StepLaws
pub mod FitLaws
pub mod TypeLaws
pub mod TheoremsProof
