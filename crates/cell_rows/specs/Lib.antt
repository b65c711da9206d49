-- Cells as rows of words: none set, and one more; one row that has every cell of another; and what it means that rows
-- show a sheet.
pub mod CellPlaces
pub mod Rows
pub mod RowWords
pub mod RowHeld
pub mod CellAdded
pub mod Laws
