-- The laws of bits, of sets of lanes and of tables.
pub mod BitLaws
pub mod LaneSetLaws
pub mod LaneLaws
