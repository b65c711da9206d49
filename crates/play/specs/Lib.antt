-- The bytes that a writing or a newcomer is lent.
pub mod Space
pub mod Lengths
