-- The proofs of the marked cases and of the examples of weights.
pub mod MarkedCases
pub mod WeightedCases
