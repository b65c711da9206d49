-- One step of the search machine: what the words and bytes stand for that a step of the code goes by, and why it is
-- the machine's.
pub mod FitTable
pub mod StepKinds
pub mod Parts
pub mod CursorAfter
pub mod Gathered
pub mod OpenTo
pub mod Lent
pub mod Laws
