-- What the customer reads: the papers' numbers, and every theorem on one page.
pub mod Constants
pub mod Claims
