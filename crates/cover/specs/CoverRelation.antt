-- What puts two grants of the kernel together, by their cells: that they fit, as the rows say, or that they have one
-- permission or one user.
use Rattle.std.specs.Prelude.{ℕ, ◌/◌, ◌%◌, ◌^◌, ◌<◌, Bool, List, length, get_or}
use Rattle.std.proofs.Common.{lt_of_le_of_lt, div-le_self}
use Rattle.std.proofs.Math.Bool.{So}
use Rattle.cell_rows.specs.Rows.{row_bits, cell}
use Rattle.cell_rows.specs.CellPlaces.{grant_of, fit_in}

-- two numbers of the kernel fit
abbrev pub fit_at_cells : List ℕ → List ℕ → ℕ → ℕ → Bool
fit_at_cells rows cells i j = fit_in rows (grant_of (get_or cells i 0)) (grant_of (get_or cells j 0))

-- the permission of a number of the kernel
abbrev pub permission_at_cell : List ℕ → ℕ → ℕ
permission_at_cell cells i = get_or cells i 0 % row_bits

-- its user
abbrev pub user_at_cell : List ℕ → ℕ → ℕ
user_at_cell cells i = get_or cells i 0 / row_bits

-- each number is a grant that the rows hold
abbrev pub HeldCells : List ℕ → List ℕ → Type 0
HeldCells rows cells = (i : ℕ) → i < length cells → So (cell rows (user_at_cell cells i) (permission_at_cell cells i))

-- the user of a cell is below this
abbrev pub user_room : ℕ
user_room = 2 ^ 16

pub user_has_room : (n : ℕ) → n < 2 ^ 16 → n / row_bits < user_room
user_has_room n l = lt_of_le_of_lt (div-le_self n row_bits) l
