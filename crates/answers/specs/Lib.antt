-- The answers of the code as the calls have them, and the counts that follow from roles and witness.
pub mod Said
pub mod CountsFrom
