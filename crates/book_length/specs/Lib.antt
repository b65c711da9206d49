-- The book that rows of words and a list of cells say, and how long it is.
pub mod BookRows
pub mod NameBytes
pub mod Laws
