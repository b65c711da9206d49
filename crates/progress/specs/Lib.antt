-- The line that the long search writes after each search.
pub mod Parts
pub mod Laws
