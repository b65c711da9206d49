-- The columns of the rows, a position for each user: place n says that user n % user-limit holds the permission
-- n / user-limit. So a permission's places are the users who can have grants that fit one with that permission.
use Rattle.std.specs.Prelude.{ℕ, ◌+◌, ◌*◌, ◌/◌, ◌%◌, Bool, cond, List}
use Rattle.spec.specs.Limits.{user_limit}
use Rattle.bits.specs.Bit.{word_bits}
use Rattle.bits.specs.Counting.{count_below}
use Rattle.cell_rows.specs.Rows.{row_bits, cell}
use Rattle.cell_rows.specs.CellPlaces.{near}
use Rattle.cells.specs.MadeCells.{MadeCells}

-- the words of a permission
abbrev pub column_words : ℕ
column_words = user_limit / word_bits

-- the places of all permissions
abbrev pub place_limit : ℕ
place_limit = row_bits * user_limit

-- user u holds the permission p
abbrev pub held_in : List ℕ → ℕ → ℕ → Bool
held_in rows p u = cell rows u p

abbrev pub place_held : List ℕ → ℕ → Bool
place_held rows n = held_in rows (n / user_limit) (n % user_limit)

-- the columns of these rows
abbrev pub Columns : List ℕ → List ℕ → Type 0
Columns rows columns = MadeCells (place_held rows) place_limit columns

-- how many cells of user u are near the cell it
abbrev pub near_in_row : List ℕ → List ℕ → ℕ → ℕ → ℕ
near_in_row rows left it u = count_below row_bits (λ p. near rows left it (u * row_bits + p))

-- the same where the user is taken, else none
abbrev pub near_if : Bool → List ℕ → List ℕ → ℕ → ℕ → ℕ
near_if taken rows left it u = cond taken (near_in_row rows left it u) 0
