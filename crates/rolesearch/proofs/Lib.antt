-- What the long search prints, from its contract as the source has it.
pub mod Contracts
