-- The laws of statements about lists, of runs and of sums, and the theorems.
pub mod ListLaws
pub mod EachLaws
pub mod RunLaws
pub mod SumLaws
pub mod TheoremsProof
