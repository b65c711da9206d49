-- The laws behind what contracts cite.
pub mod LineWritten
pub mod Name
pub mod FirstLine
pub mod Counts
