-- Sets of grants as rows of words: the grants of a sheet whose cells are set. Assumes nothing.
use Rattle.std.specs.Prelude.{ℕ, Bool, List}
use Rattle.spec.specs.Vocabulary.{filter}
use Rattle.spec.specs.Sheet.{Sheet, Grant, grants}
use Rattle.cell_rows.specs.Rows.{cell}

-- the grant's cell is set
abbrev pub in_cells : List ℕ → Grant → Bool
in_cells words g = cell words g.user g.permission

-- the grants whose cells are set, in order
abbrev pub cell_grants : Sheet → List ℕ → List Grant
cell_grants sheet words = filter (in_cells words) (grants sheet)
