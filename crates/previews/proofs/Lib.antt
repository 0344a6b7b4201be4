-- The laws of previews, and the theorems.
pub mod PreviewLaws
pub mod ActLaws
pub mod ExamplesProof
pub mod TheoremsProof
