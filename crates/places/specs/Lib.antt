-- Where the names of a list stand in a sheet: the place of a name as one number, its two ends, and room for places.
pub mod Places
pub mod Laws
