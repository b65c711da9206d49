-- The lines that answer a script's calls.
pub mod Answers
pub mod LineOf
pub mod Laws
