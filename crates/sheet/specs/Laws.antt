-- The laws behind what contracts cite.
pub mod Spelled
pub mod UserLineFound
pub mod RowCount
pub mod UserLines
pub mod UserLinesFound
pub mod FirstLine
pub mod FirstLineFound
pub mod KeptSheet
pub mod KeptRead
pub mod KeptFound
