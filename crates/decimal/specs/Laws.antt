-- The laws behind what contracts cite.
pub mod Decimal
pub mod Count
pub mod DigitsWritten
pub mod DigitsMeasured
pub mod Digit
