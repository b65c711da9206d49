-- Blocks 1 and 4 of a book, read field by field: the counts and the state, and the grants of the witness.
pub mod CountSteps
pub mod NameSteps
pub mod WitnessList
pub mod WitnessLineSteps
pub mod WitnessSteps
pub mod Laws
