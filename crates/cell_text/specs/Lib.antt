-- Rows of cells as text, four at a time.
pub mod CellsText
pub mod FourCells
pub mod Laws
