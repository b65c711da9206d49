-- The checker: whether a book is right for a sheet, its counts, and what was read of it.
pub mod BlocksRead
pub mod ReadAs
pub mod Laws
