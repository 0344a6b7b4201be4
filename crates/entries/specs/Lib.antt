-- What the program's log record means, in the order of reading.
pub mod Types
pub mod Theorems
