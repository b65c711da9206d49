-- Theorems only: a sheet is accepted exactly when it keeps the rules of its paper.
pub mod CauseLaws
pub mod SheetLines
pub mod ByteCauses
pub mod LineCauses
pub mod NameCauses
pub mod Unrefused
pub mod WrittenLaws
pub mod KeepsLaws
pub mod AcceptedKeeps
pub mod Accepted
pub mod AcceptedFacts
