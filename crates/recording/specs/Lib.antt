-- What the program `record_log` writes, in the order of reading.
pub mod Recording
pub mod Written
pub mod Theorems
