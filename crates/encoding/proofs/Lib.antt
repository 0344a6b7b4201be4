-- The laws of bytes, and the theorems.
pub mod ByteLaws
pub mod TheoremsProof
pub mod StdLaws
