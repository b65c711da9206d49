-- Blocks 2, 3 and 4 of a role book: a writer for each.
pub mod WitnessText
pub mod Laws
