-- The kernel that the program closes, what it compares, and what it adds up.
pub mod Crown
pub mod Same
pub mod AddUp
