-- Theorems only: an accepted sheet with one line added is the sheet with one user more.
pub mod OneLine
pub mod AddedUser
pub mod AddedLine
pub mod AddedCauses
pub mod LineAdded
pub mod Addable
pub mod LongerSheet
