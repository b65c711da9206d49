-- Theorems only: two sheets that differ only in one user's line, or only in one permission's column, have smallest role
-- counts at most 1 apart. A column is a line of the sheets with rows and columns exchanged.
pub mod Exchanged
pub mod OneApart
