-- The laws behind what contracts cite.
pub mod Paired
pub mod Role
pub mod CellClass
pub mod GoingBack
pub mod RoleNumber
pub mod RolesInput
pub mod ReducedBelongs
pub mod RoleWalk
