-- Which grants of a kernel fit, as a table for the search.
pub mod TableWords
pub mod TableParts
pub mod TableHeld
pub mod Laws
