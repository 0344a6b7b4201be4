-- Sessions and answers in bytes and numbers, in the order of reading.
pub mod Packed
pub mod Replies
pub mod Exports
pub mod Examples
pub mod Theorems
