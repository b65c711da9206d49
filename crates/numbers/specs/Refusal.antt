-- The number of each refusal, and the number that an answer says. Assumes nothing.
use Rattle.std.specs.Prelude.{ℕ, Result, Ok, Err}
use Rattle.numbers.specs.declared.refusal.Refusal.{Refusal}
use Rattle.numbers.specs.declared.refusal.Refusal.TheVariants.{SheetTooLong, BadBytes, BadFirstLine, UserCount}
use Rattle.numbers.specs.declared.refusal.Refusal.TheVariants.{NameLength, UnevenLine, BadCell, NameTwice}
use Rattle.numbers.specs.declared.refusal.Refusal.TheVariants.{TooManyGrants, NoSheet, BufferTooShort, BookForm}
use Rattle.numbers.specs.declared.refusal.Refusal.TheVariants.{BookCounts, BookProduct, BookWitness, NotReduced}
use Rattle.numbers.specs.declared.refusal.Refusal.TheVariants.{NameTaken, UsersFull, RolesFull}

-- the number of each cause
abbrev pub number_of : Refusal → ℕ
number_of SheetTooLong = 1
number_of BadBytes = 2
number_of BadFirstLine = 3
number_of UserCount = 4
number_of NameLength = 5
number_of UnevenLine = 6
number_of BadCell = 7
number_of NameTwice = 8
number_of TooManyGrants = 9
number_of NoSheet = 10
number_of BufferTooShort = 11
number_of BookForm = 12
number_of BookCounts = 13
number_of BookProduct = 14
number_of BookWitness = 15
number_of NotReduced = 16
number_of NameTaken = 17
number_of UsersFull = 18
number_of RolesFull = 19

-- the number that an answer says: 0 where nothing is refused
abbrev pub number_said : {T : Type 0} → Result T Refusal → ℕ
number_said (Ok value) = 0
number_said (Err cause) = number_of cause
