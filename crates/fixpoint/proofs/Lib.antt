-- The law of a rule's body.
pub mod BodyLaws
