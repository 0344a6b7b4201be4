-- The laws of the question: the members of a set, their weights, and what the search's answer asks.
pub mod TakingLaws
pub mod MemberLaws
pub mod WeightLaws
pub mod AskedLaws
pub mod TheoremsProof
