-- The lines of a role book: a name and cells, two names, the names of roles, the permissions, the counts; and what
-- rows of words and a list of cells say.
pub mod CountsText
pub mod Lines
pub mod RowsSaid
pub mod Writing
pub mod Laws
