-- The laws of the station's previews and records, and the theorems.
pub mod PreviewLaws
pub mod StepLaws
pub mod OutputLaws
pub mod ExampleProof
pub mod TheoremsProof
