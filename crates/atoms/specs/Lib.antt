-- Atoms and sets of atoms, in the order of reading.
pub mod Atoms
pub mod Sets
pub mod Meaning
