-- The law of a record in its place.
pub mod PlaceLaws
