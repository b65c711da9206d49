-- The laws behind what contracts cite.
pub mod LastByte
pub mod Text
pub mod Byte
pub mod TextBytes
pub mod Line
pub mod Front
pub mod Lowered
