-- The laws of disclosure and of its answer, and the theorems.
pub mod DisclosureLaws
pub mod AcceptedLaws
pub mod TypeLaws
pub mod TheoremsProof
