-- The laws of maps, of sets as numbers, of sizes, of the lowest atom of a set, and of the list of its atoms.
pub mod MapLaws
pub mod SetLaws
pub mod SizeLaws
pub mod LowestLaws
pub mod ListedLaws
pub mod LoopLaws
pub mod MeaningProof
