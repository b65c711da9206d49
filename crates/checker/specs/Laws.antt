-- The laws behind what contracts cite.
pub mod CodeCall
pub mod CheckSteps
pub mod JudgedRead
