-- The state that a search names and a book says, and the bound beside it.
pub mod StandingCases
