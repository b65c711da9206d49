-- A row of cells as a line spells it: a comma and `1` or `0` for each.
use Rattle.std.specs.Prelude.{ℕ, Bool, List, ◌∷◌}
use Rattle.spec.specs.Text.{Bytes, comma}
use Rattle.spec.specs.Sheet.{cell_text}
use Rattle.bits.specs.Bit.{bit}
use Rattle.lists.specs.Listed.{listed}
use Rattle.cell_rows.specs.Rows.{cell}

-- a cell behind what stands before it
abbrev pub cell_field : Bool → Bytes
cell_field b = comma ∷ cell_text b

-- the first so many cells of a word
abbrev pub word_text : ℕ → ℕ → Bytes
word_text word count = listed count (λ p. cell_field (bit word p))

-- the first so many cells of a row of words
abbrev pub cells_text : List ℕ → ℕ → ℕ → Bytes
cells_text words row count = listed count (λ i. cell_field (cell words row i))
