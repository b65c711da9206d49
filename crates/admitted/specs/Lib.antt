-- Theorems only: a newcomer in an existing book. What the new book says is right for the longer sheet; and where there
-- is a book as it is owed and room for it, the call brings out that one.
pub mod OneMoreUser
pub mod LeftOver
pub mod RolesAdmitting
pub mod ProductAdmitting
pub mod SaidAdmitting
pub mod NewRole
pub mod NewcomerCauses
pub mod NewBook
pub mod SameText
pub mod SameSaid
pub mod SameAdmitting
pub mod Pinned
pub mod AdmittedBook
pub mod LineWritten
pub mod NoneRefuses
pub mod Exactly
