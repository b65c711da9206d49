-- The laws behind what contracts cite.
pub mod SumOfParts
pub mod NameBytes
pub mod Placed
pub mod CountsMeasured
pub mod WitnessMeasured
pub mod BookMeasured
