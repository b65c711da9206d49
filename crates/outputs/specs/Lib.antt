-- What the programs print.
pub mod Lines
pub mod CheckOutput
pub mod NewcomerOutput
pub mod Laws
