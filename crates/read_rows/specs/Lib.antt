-- Blocks 2 and 3 of a book, read into rows of words against the sheet that it is for.
pub mod HeadingSteps
pub mod RoleSteps
pub mod UserSteps
pub mod Laws
