-- A newcomer's roles over rows of words.
pub mod RolesGot
pub mod LeftRow
pub mod RowPut
pub mod RowsAdmitted
pub mod Laws
