-- Reading a grant sheet in one pass: its refusal, where its names stand, and its cells as rows of words.
pub mod Spelled
pub mod UserLine
pub mod UserLines
pub mod FirstLine
pub mod OnlyNames
pub mod KeptSheet
pub mod Laws
