-- Levels that the gate finds itself, in the order of reading.
pub mod Levels
pub mod Graphs
pub mod Walks
pub mod Rows
