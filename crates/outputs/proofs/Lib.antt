-- What is shown of the contracts of what the programs print.
pub mod Contracts
