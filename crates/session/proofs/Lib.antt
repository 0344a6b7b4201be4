-- What the program's steps and types come to.
pub mod ProgramLaws
pub mod FitLaws
pub mod TypeLaws
pub mod TheoremsProof
