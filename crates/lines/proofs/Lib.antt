-- The laws of lines, and the theorems.
pub mod LineLaws
pub mod TheoremsProof
