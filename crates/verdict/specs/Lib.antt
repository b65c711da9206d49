-- What a sweep does with one grant: removed as single, tied to the lowest that it dominates, or left.
pub mod Log
pub mod NearCells
pub mod Misfits
pub mod ReductionVerdict
pub mod Insides
pub mod ReductionWork
pub mod Laws
