-- Lines of a book: a row cleared, a line behind its name, and the parts of which a book is made.
pub mod Pieces
pub mod RowCleared
pub mod LineSteps
pub mod RowSteps
pub mod Laws
