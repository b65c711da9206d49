-- The laws behind what contracts cite.
pub mod Near
pub mod NearWord
pub mod Misfit
pub mod MisfitWalk
pub mod Candidate
pub mod TieWalk
pub mod ReductionVerdict
pub mod Single
pub mod Sift
pub mod Inside
pub mod ReductionWork
pub mod ReductionRemove
pub mod ReductionVisit
pub mod NearTie
