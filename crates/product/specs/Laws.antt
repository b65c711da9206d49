-- The laws behind what contracts cite.
pub mod OrOverRoles
pub mod RoleSteps
pub mod WordsAgree
