-- Passes until one adds nothing, and their count, in the order of reading.
pub mod IdlePasses
pub mod Counting
pub mod Theorems
pub mod Examples
