-- The laws of levels for all lanes at once, of the candidates of a block, and of what a block gives.
pub mod EvaluateLaws
pub mod MemberLaws
pub mod FillLaws
pub mod SwitchingLaws
pub mod BlockLaws
