-- Bytes as text: which bytes there are, bytes compared, bytes written to the front of a lent buffer.
pub mod Written
pub mod Line
pub mod Laws
