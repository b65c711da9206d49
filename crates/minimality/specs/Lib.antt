-- Why the book can be believed: role sets and classings of grants, and what the reduction keeps.
pub mod GrantClassing
pub mod RoleSets
pub mod ClassRoles
pub mod PlacementClasses
pub mod Removals
pub mod KernelLaws
pub mod Singles
pub mod Settling
pub mod ReductionKeeps
pub mod PuttingBack
pub mod Chosen
pub mod WitnessLaws
pub mod PermissionBound
pub mod SheetRoles
pub mod StateBound
pub mod EverySheet
