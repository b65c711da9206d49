-- What is found of an accepted sheet, and what there is without one.
pub mod Prepared
pub mod NothingPrepared
pub mod Laws
