-- What is shown of the contract of the checker's call.
pub mod Contracts
