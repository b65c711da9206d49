-- Sets of numbers in two words: which numbers are marked (`Marks`), and the laws of it.
pub mod Marks
pub mod Laws
