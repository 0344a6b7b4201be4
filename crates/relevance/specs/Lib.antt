-- What bears on a request, in the order of reading.
pub mod Relevance
pub mod Places
pub mod Theorems
