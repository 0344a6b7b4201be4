-- What a policy's access rules in arrays come to.
pub mod Theorems
