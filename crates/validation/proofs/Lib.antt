-- The laws of tests, of lists of them, of numbers beside them, and of what is given unless one fails; and the theorems.
pub mod TestLaws
pub mod DecideLaws
pub mod FirstLaws
pub mod NumberLaws
pub mod UnlessLaws
pub mod TheoremsProof
