-- The proofs of the claims.
pub mod ClaimsProof
