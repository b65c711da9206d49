-- The reduction: sweeps until one removes nothing, and the log of what was removed.
pub mod WorkAt
pub mod CarriedOut
pub mod ReductionResult
pub mod Laws
