-- What a count past the slots is.
pub mod CountLaws
