-- The laws behind what contracts cite.
pub mod Width
pub mod RowWithin
pub mod EveryWord
pub mod PositionSet
