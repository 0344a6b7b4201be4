-- Tests in order and the statements that they decide, in the order of reading.
pub mod Tests
pub mod Statements
pub mod Unless
pub mod Theorems
