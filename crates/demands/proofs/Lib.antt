-- The proofs of the demands and promises.
pub mod BoundLaws
pub mod ListLaws
pub mod RoundLaws
pub mod ClientLaws
pub mod AnswerProof
pub mod AcceptedLaws
pub mod EndLaws
pub mod Demand1Proof
pub mod PromiseProof
pub mod Demand3Proof
pub mod VisitProof
pub mod SeventeenProof
pub mod LongestProof
pub mod AdmittanceProof
pub mod WeightsProof
