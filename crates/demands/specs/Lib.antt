-- Theorems only: the three demands, of the definitions.
pub mod Reached
pub mod TextWritten
pub mod Answers
pub mod Believed
pub mod StepsOwed
pub mod Owed
pub mod Settled
pub mod EverySequence
pub mod Demand1
pub mod Lowest
pub mod Demand3
pub mod OneMoves
pub mod Rounds
pub mod CheckerAlone
pub mod NewcomerBook
pub mod PlacedOnce
pub mod Demand2
