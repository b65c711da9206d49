-- A role book written into a lent buffer.
pub mod Laws
