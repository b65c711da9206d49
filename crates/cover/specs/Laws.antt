-- The laws behind what contracts cite.
pub mod Cover
pub mod CoverFit
pub mod CoverUsers
pub mod CoverArray
