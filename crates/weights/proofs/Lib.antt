-- What the loop over the records comes to.
pub mod TableLaws
