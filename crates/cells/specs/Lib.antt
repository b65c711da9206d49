-- Cells by number, sets of cells, and the cells of a set in order.
pub mod Blank
pub mod KernelArray
pub mod KernelWalk
pub mod KernelList
pub mod CellSets
pub mod MadeCells
pub mod RowsRead
pub mod Laws
