-- The laws behind what contracts cite.
pub mod WitnessCells
pub mod NameTaken
pub mod Numbers
pub mod ReadyFacts
pub mod NewBook
