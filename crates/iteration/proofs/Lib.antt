-- The laws of passes until one adds nothing.
pub mod AddingLaws
pub mod IdleLaws
pub mod LoopLaws
pub mod CountLaws
pub mod RuleLaws
pub mod TheoremsProof
pub mod ExamplesProof
