-- What the station program prints, in the order of reading.
pub mod Lines
pub mod Output
pub mod Steps
pub mod Theorems
