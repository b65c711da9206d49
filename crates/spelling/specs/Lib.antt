-- What a text is by its bytes: of a sheet, of a name, the word `user`; and whether it is as long as a name.
pub mod Kinds
