-- Previews of rounds at slots, in the order of reading.
pub mod Previews
pub mod Meanings
pub mod Acts
pub mod Examples
pub mod Theorems
