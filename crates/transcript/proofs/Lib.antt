-- The laws of what the bench program prints, and the theorems.
pub mod NumeralLaws
pub mod NumeralProofs
pub mod OutputLaws
pub mod StepLaws
pub mod TheoremsProof
