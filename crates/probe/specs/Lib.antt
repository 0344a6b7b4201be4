-- What the search replies, in the order of reading.
pub mod Reply
pub mod Theorems
