-- Cells read from a line of text: into a word, and into a row of words.
pub mod CellsWord
pub mod FourRead
pub mod RowGrown
pub mod RowCells
pub mod Laws
