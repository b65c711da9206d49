-- The Adler-32 of some bytes, by which the line of an answer names them.
pub mod Adler
