-- The laws behind what contracts cite.
pub mod Loading
pub mod SheetHeld
pub mod ReducedAnew
pub mod Counted
pub mod MovedOn
pub mod CountsHeld
pub mod SearchedHeld
pub mod Reducing
pub mod CodeSequence
pub mod CodeBooks
pub mod BestHeld
pub mod BookHeld
pub mod WritesHeld
pub mod Unready
