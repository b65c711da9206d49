-- The laws behind what contracts cite.
pub mod Fields
pub mod Cells
pub mod ReadLine
pub mod Body
pub mod Ones
pub mod BadBytes
pub mod Judge
pub mod UserPlaces
pub mod FieldsLeft
pub mod PermissionPlaces
