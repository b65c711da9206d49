-- One person moves one role, whole.
pub mod OneMoves
