-- Words as sets of positions, and what is counted and looked for below a bound. `Counting` and `Bit` have the words
-- of the contracts, `Word` what one says of a whole word, `Positions` of taking its positions one by one; the other modules have the laws, one subject each.
pub mod Counting
pub mod Truth
pub mod Bit
pub mod Word
pub mod Positions
pub mod Laws
