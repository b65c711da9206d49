-- The laws behind what contracts cite.
pub mod CellsWord
pub mod FourRead
pub mod CellsStanding
