-- Lists of calls on a lent list of slots, with previews among them.
pub mod Calls
pub mod Theorems
