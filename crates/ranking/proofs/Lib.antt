-- The laws of keys, of the next key, of the cheapest lane and of places.
pub mod KeyLaws
pub mod NextLaws
pub mod LaneLaws
pub mod PlaceLaws
pub mod SettledLaws
pub mod GridLaws
pub mod RankLaws
