-- The laws behind what contracts cite.
pub mod Line
