-- What the fields after the first of a line say, taken together, one field after the other. Assumes nothing.
use Rattle.std.specs.Prelude.{ℕ, ◌+◌, true, ◌&&◌, [], ◌∷◌, length}
use Rattle.spec.specs.Vocabulary.{all}
use Rattle.spec.specs.Text.{Bytes, Line}
use Rattle.spec.specs.Sheet.{is_one, is_bit}
use Rattle.spec.specs.Refusal.{has_name_length}
use Rattle.bits.specs.Counting.{one_if}
use Rattle.refusal.specs.declared.fields.Cells.{Cells}

-- no field
abbrev pub no_cells : Cells
no_cells = record { count = 0; names = true; bits = true; ones = 0 }

-- some fields and one more
abbrev pub add_cell : Cells → Bytes → Cells
add_cell cells field =
    record {
      count = cells.count + 1;
      names = cells.names && has_name_length field;
      bits = cells.bits && is_bit field;
      ones = cells.ones + one_if (is_one field);
    }

-- some fields and others after them
abbrev pub add_cells : Cells → Line → Cells
add_cells cells [] = cells
add_cells cells (field ∷ rest) = add_cells (add_cell cells field) rest

-- how many fields are `1`
abbrev pub ones_in : Line → ℕ
ones_in [] = 0
ones_in (field ∷ rest) = one_if (is_one field) + ones_in rest

-- what some fields say
abbrev pub cells_of : Line → Cells
cells_of line =
    record { count = length line; names = all has_name_length line; bits = all is_bit line; ones = ones_in line }
