-- How many users and grants there are where each of four users holds every permission but their own, how many singles
-- and what the witness counts, and how many searches of which budget.
use Rattle.std.specs.Prelude.{ℕ, ◌*◌, pred}
use Rattle.moves.specs.declared.cursor.Sizes.{Sizes}

abbrev pub users : ℕ
users = 4

abbrev pub grants : ℕ
grants = users * pred users

abbrev pub sizes : Sizes
sizes = record { kernel = grants; singles = 0; witness = 3 }

-- the budget of each of many searches, and the most of them
abbrev pub part : ℕ
part = 7

abbrev pub most : ℕ
most = 100
