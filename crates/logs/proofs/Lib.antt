-- The laws of log records, of agreement, of logs that are not refused and of where two part; and the theorems.
pub mod AgreeLaws
pub mod EntryLaws
pub mod SoundLaws
pub mod DivergenceLaws
pub mod ComparisonLaws
pub mod ExamplesProof
pub mod TheoremsProof
