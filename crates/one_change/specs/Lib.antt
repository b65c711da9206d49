-- Two sheets that differ only in one user's line, or only in one permission's column: a sheet with rows and columns
-- exchanged, and one user's line changed. What follows stands in proofs/.
pub mod Exchanged
pub mod OneLine
