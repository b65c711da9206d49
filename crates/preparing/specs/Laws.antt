-- The laws behind what contracts cite.
pub mod Preparing
pub mod TableKernel
