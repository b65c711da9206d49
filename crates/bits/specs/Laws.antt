-- The laws behind what contracts cite.
pub mod Step
pub mod Below
pub mod Lowest
pub mod Cut
pub mod Count
pub mod CountJoin
pub mod Sum
pub mod Block
pub mod Bit
pub mod Next
pub mod Walk
pub mod Word
pub mod Computed
