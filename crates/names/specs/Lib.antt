-- Names as parts of the sheet itself: where they stand, one by its number, and the number of one.
pub mod NamesAt
pub mod FoundBetween
pub mod LaidOut
pub mod NoLayout
pub mod Laws
