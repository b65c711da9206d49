-- The laws behind what contracts cite.
pub mod Table
pub mod TablePart
