-- Roles: the laws of classes and roles, and what the code's words stand for.
pub mod CellClasses
pub mod RoleNumbers
pub mod RoleMatrices
pub mod RoleWalk
pub mod RolesShown
pub mod RolesInput
pub mod Laws
