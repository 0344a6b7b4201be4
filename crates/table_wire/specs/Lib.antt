-- What the program's types mean.
pub mod Types
