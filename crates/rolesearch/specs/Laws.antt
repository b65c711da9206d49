-- The laws behind what contracts cite.
pub mod GoingOn
pub mod LongOutput
