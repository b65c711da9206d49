-- The laws behind the contracts.
pub mod LineNumber
