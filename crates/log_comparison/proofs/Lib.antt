-- What the steps and types of logs come to.
pub mod ChunkLaws
pub mod CompareLaws
pub mod TypeLaws
pub mod TheoremsProof
