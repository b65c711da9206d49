-- The judgement of a sheet cause by cause: the lowest number that applies.
pub mod FirstLine
pub mod Cells
pub mod ReadLine
pub mod Body
pub mod UserPlaces
pub mod Laws
