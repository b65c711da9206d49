-- The laws behind what contracts cite.
pub mod Fit
pub mod ColumnPlaces
pub mod Among
pub mod Column
pub mod FitWord
pub mod ColumnUnion
