-- Which grants fit, over rows and columns of words.
pub mod Columns
pub mod ColumnsMade
pub mod ColumnUnion
pub mod Laws
