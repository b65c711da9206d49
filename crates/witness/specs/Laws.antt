-- The laws behind what contracts cite.
pub mod WitnessTaken
pub mod CountChange
pub mod Row
pub mod FitCounts
pub mod Counts
pub mod FirstCounts
