-- The laws of lists of operations, and the theorems.
pub mod KeepLaws
pub mod ApartLaws
pub mod CutLaws
pub mod AtSlotLaws
pub mod ExamplesProof
pub mod TheoremsProof
