-- The classes of the best placement.
pub mod BestOf
pub mod Laws
