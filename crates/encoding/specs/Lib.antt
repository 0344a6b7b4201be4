-- Numbers as bytes, in the order of reading.
pub mod LittleEndian
pub mod Theorems
