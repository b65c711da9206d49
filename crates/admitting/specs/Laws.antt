-- The laws behind what contracts cite.
pub mod Got
pub mod Left
pub mod LeftOver
pub mod Gets
pub mod RowPut
pub mod Admitted
