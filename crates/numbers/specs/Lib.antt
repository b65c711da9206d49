-- The numbers by which callers are told why they are refused.
pub mod Refusal
