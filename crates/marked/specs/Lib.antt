-- The marked cases of document 01, and examples of weights.
pub mod Marked
pub mod Weighted
