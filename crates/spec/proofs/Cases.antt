-- The cases of documents 01 and 02 and the slips to shut out, computed from the definitions: with one of the slips that
-- a file names they compute otherwise.
pub mod Limits
pub mod Sheet
pub mod Reduction
pub mod Machine
pub mod Roles
pub mod Checker
pub mod Edges
pub mod Calls
pub mod Searches
pub mod LongSearch
pub mod Newcomer
pub mod OneChange
