-- Counts in decimal: measured and written.
pub mod WordDigits
pub mod Measured
pub mod Laws
