-- The laws behind what contracts cite.
pub mod Stands
pub mod Aligned
pub mod Step
pub mod Spelled
