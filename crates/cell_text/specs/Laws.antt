-- The laws behind what contracts cite.
pub mod Parts
pub mod CellWords
pub mod CellsWritten
