-- The searches of the long search.
pub mod Rounds
pub mod Laws
