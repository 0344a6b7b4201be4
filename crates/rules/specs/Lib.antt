-- Rules, what is read of a policy, the one stable set, and what unlocks a service, in the order of reading.
pub mod Rules
pub mod Policy
pub mod Weights
pub mod Stable
pub mod Model
pub mod LevelByLevel
pub mod Unlocking
pub mod Theorems
