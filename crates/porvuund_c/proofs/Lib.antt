-- What is shown of the contracts of the library's calls together.
pub mod Contracts
