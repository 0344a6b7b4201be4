-- The laws behind the loops over arrays, and the theorem.
pub mod HeadLaws
pub mod ArrayLaws
pub mod StartLaws
pub mod EndLaws
pub mod CountLaws
pub mod LayoutLaws
pub mod ModelLaws
pub mod TheoremsProof
