-- The log of a session, in the order of reading.
pub mod RoundRecords
pub mod SessionLogs
pub mod Implementations
pub mod Exports
pub mod Theorems
