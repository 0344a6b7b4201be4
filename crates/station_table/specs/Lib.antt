-- What the station's slots mean.
pub mod Types
