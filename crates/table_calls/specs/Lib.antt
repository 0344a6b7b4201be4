-- Lists of calls on a lent list of slots.
pub mod Calls
pub mod Theorems
