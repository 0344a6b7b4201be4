-- The laws of levels that the gate finds.
pub mod MemberLaws
pub mod WalkLaws
pub mod SettleLaws
pub mod StepLaws
pub mod LayerLaws
pub mod RowLaws
pub mod FindLaws
