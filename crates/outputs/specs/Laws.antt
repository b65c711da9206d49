-- The laws behind what contracts cite.
pub mod Output
pub mod Printed
pub mod LongPrinted
pub mod NewcomerPrinted
