-- Lists of openings and rounds over slots, in the order of reading.
pub mod Operations
pub mod AtSlot
pub mod Examples
pub mod Theorems
