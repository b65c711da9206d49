-- The laws behind what contracts cite.
pub mod RoleNames
pub mod Respelled
