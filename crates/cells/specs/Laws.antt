-- The laws behind what contracts cite.
pub mod Number
pub mod KernelFit
pub mod CellPlace
pub mod CellList
pub mod CellLawful
pub mod Grant
pub mod GrantOrder
pub mod WordRows
pub mod CellAdded
pub mod MadeCells
pub mod NextBelow
pub mod FirstAt
