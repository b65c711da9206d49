-- The laws behind what contracts cite.
pub mod AnswerParts
pub mod HexWidth
