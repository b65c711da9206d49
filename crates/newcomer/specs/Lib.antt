-- A newcomer in an existing book: what the call is made of.
pub mod WitnessCells
pub mod NewCounts
pub mod Ready
pub mod Laws
