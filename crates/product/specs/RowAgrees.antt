-- Whether a row of words is a user's row of the product. Assumes nothing.
use Rattle.std.specs.Prelude.{ℕ, Bool, List}
use Rattle.std.specs.Bool.{beq}
use Rattle.spec.specs.Vocabulary.{every_below}
use Rattle.spec.specs.RoleSet.{RoleSet, product}
use Rattle.cell_rows.specs.Rows.{row_bits, cell}

-- a cell of a row agrees with the product
abbrev pub cell_agrees : List ℕ → RoleSet → ℕ → ℕ → Bool
cell_agrees rows roles u p = beq (product roles u p) (cell rows u p)

-- all cells of a row do
unfoldable pub row_agrees : List ℕ → RoleSet → ℕ → Bool
row_agrees rows roles u = every_below row_bits (cell_agrees rows roles u)
