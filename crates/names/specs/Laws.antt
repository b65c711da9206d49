-- The laws behind what contracts cite.
pub mod NamesAt
pub mod FoundBetween
pub mod LaidOut
pub mod NamesThere
