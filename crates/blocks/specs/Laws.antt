-- The laws behind what contracts cite.
pub mod Laid
pub mod Shown
