-- Log records, which logs are refused, and two logs held against each other, in the order of reading.
pub mod Entries
pub mod LogForm
pub mod Agreement
pub mod Comparison
pub mod Examples
pub mod Theorems
