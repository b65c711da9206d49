-- The limits of document 01, as request [1] of document 02 sets them, and the two numbers of the long search, a program
-- of this project's own. Each stands here once, for all tests and for the machine. The rules of a sheet, what makes a
-- book right, and the demands say their numbers themselves and do not share these names: a test with another limit no
-- longer meets them. The cases compare each with the papers' number too; of the greatest budget, of a kernel above 128,
-- of the book program's buffer and of the long search, they alone speak.
use Rattle.spec.specs.Vocabulary.{ℕ}

-- the bytes of a sheet
unfoldable pub sheet_limit : ℕ
sheet_limit = 65_536

-- the permissions of a sheet
unfoldable pub permission_limit : ℕ
permission_limit = 128

-- the users of a sheet
unfoldable pub user_limit : ℕ
user_limit = 256

-- the bytes of a name
unfoldable pub name_limit : ℕ
name_limit = 16

-- the grants of a sheet
unfoldable pub grant_limit : ℕ
grant_limit = 2_048

-- the greatest kernel that is searched
unfoldable pub search_limit : ℕ
search_limit = 128

-- the greatest budget
unfoldable pub budget_limit : ℕ
budget_limit = 4_294_967_295

-- the budget of each search of the long search, and how many searches it makes where none are given
unfoldable pub round_budget : ℕ
round_budget = 100_000_000

unfoldable pub usual_rounds : ℕ
usual_rounds = 3_600

-- the roles of a book: as many as the permissions that a sheet may have, since no cover needs more
unfoldable pub role_limit : ℕ
unfolding permission_limit
role_limit = permission_limit

-- the bytes of the book program's buffer: a session's book can be longer, and then 11 is printed
unfoldable pub program_buffer : ℕ
program_buffer = 65_536

-- the bytes of a book that the checker takes
unfoldable pub book_limit : ℕ
book_limit = 131_072
