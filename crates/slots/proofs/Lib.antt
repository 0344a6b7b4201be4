-- The laws of slots, and the theorems.
pub mod FreeLaws
pub mod CountLaws
pub mod OpeningLaws
pub mod PolicyFirstLaws
pub mod RoundAtLaws
pub mod TableLaws
pub mod NumbersProof
pub mod TheoremsProof
