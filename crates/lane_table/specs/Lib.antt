-- Sets of lanes, and tables whose rows they are, in the order of reading.
pub mod LaneSets
pub mod Tables
