-- The laws behind what contracts cite.
pub mod Without
pub mod KernelOrder
pub mod RemovedGranted
pub mod ReductionSweep
pub mod ReductionSettle
pub mod ReductionLog
pub mod CarryOut
