-- The session of the code: what it stands for and keeps, what its calls answer, and that they are the calls of the
-- demands.
pub mod CodeSession
pub mod Readiness
pub mod Laws
