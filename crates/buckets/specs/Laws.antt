-- The laws behind what contracts cite.
pub mod Repeats
pub mod Bucket
pub mod Meet
