-- Rules in arrays, in the order of reading.
pub mod Arrays
pub mod Layout
pub mod Theorems
