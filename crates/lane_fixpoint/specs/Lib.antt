-- Rules closed over in 256 lanes at once, in the order of reading.
pub mod Firing
pub mod Passes
pub mod Closure
pub mod Theorems
