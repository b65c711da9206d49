-- What must be believed: document 01 as definitions, in its order, the three demands, and what requests of document 02
-- promise besides (`NewcomerOwed`, `OneMovesOne`). What such a request changes stands here as changed: the numbers of
-- request [1], the product role after role of [2], names that are equal with `A-Z` read as `a-z` of [3], loads that
-- only read of [4], what the steps were of [5]; a newcomer in an existing book is of [6], one change in a sheet of [7].
-- Documents 01 and 02 are the papers that the files speak of, with source document 001 for the product. There is no law
-- here, and nothing about how the code holds its data. Who reads these files and the papers side by side, and trusts
-- the toolchain, needs beside them only what docs/THEOREMS.md names: that the demands, `NewcomerOwed` and `OneMovesOne`
-- are proved, and that the contracts of the public calls are the promises of `Calls` and `Newcomer`.

-- what sentences are said with
pub mod Vocabulary
-- every limit, once
pub mod Limits
-- "The sheet": its text, what it says, its rules
pub mod Text
pub mod Sheet
pub mod Rules
-- "Fitting"
pub mod Fit
-- "Reduction"
pub mod Reduction
-- "Witness"
pub mod Witness
-- "First cover"
pub mod Cover
-- "The search machine"
pub mod Machine
-- "Roles and state": any role set and its product; classes, roles, state and bound
pub mod RoleSet
pub mod Roles
-- "The book": counts in decimal; what a book says and its bytes
pub mod Decimal
pub mod Book
-- "The checker": the form, and what a book of the form says; what makes a book right
pub mod Form
pub mod Right
-- "Refused, and how": a session, the causes, the calls with their answers, the book program and the long search
pub mod Session
pub mod Refusal
pub mod Calls
pub mod Program
pub mod LongSearch
-- document 02, [6]: a newcomer in an existing book
pub mod Newcomer
-- "The sequence of demand 3", and the demands
pub mod Sequence
pub mod Demands
-- document 02, [6]: what is owed of a newcomer's book
pub mod Admitted
-- document 02, [7]: one person moves one role
pub mod OneChange
