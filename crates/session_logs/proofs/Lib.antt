-- The laws of a session's log, and the theorems.
pub mod SaidLaws
pub mod RecordLaws
pub mod LogProof
pub mod NormalLaws
pub mod BlameProof
pub mod ImplementationProof
pub mod ExportLaws
pub mod CaseA
pub mod AlikeProof
pub mod ExactProof
pub mod TheoremsProof
