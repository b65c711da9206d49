-- The first cover: the groupings of the kernel, and the best of them.
pub mod CoverRelation
pub mod CoverPlaced
pub mod CoverKeys
pub mod CoverMembers
pub mod CoverWords
pub mod CoverFree
pub mod CoverAllowed
pub mod Laws
