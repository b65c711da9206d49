-- What is shown of the contracts of the session's calls together.
pub mod Contracts
