-- Fields added one after the other say together what they say at once. Assumes nothing.
use Rattle.std.specs.Prelude.{◌+◌, ◌≤◌, ◌≡◌, refl, Bool, true, false, ◌&&◌, [], ◌∷◌, length}
use Rattle.std.specs.Int.{from_bool}
use Rattle.std.proofs.Common.{zero-add, arith, sym, ◌∙◌}
use Rattle.std.proofs.Math.Bool.{and-true, and_assoc}
use Rattle.spec.specs.Vocabulary.{all}
use Rattle.spec.specs.Text.{Line}
use Rattle.spec.specs.Sheet.{is_bit}
use Rattle.spec.specs.Refusal.{has_name_length}
use Rattle.bits.specs.Counting.{one_if}
use Rattle.refusal.specs.Cells.{no_cells, add_cell, add_cells, ones_in, cells_of}
use Rattle.refusal.specs.declared.fields.Cells.{Cells}

pub one_if_small : (passed : Bool) → one_if passed ≤ 1
one_if_small true = omega arith
one_if_small false = omega arith

-- what Rust makes of a `bool`
pub one_if_from : (passed : Bool) → from_bool passed ≡ one_if passed
one_if_from true = refl
one_if_from false = refl

-- what some fields say, and others after them
abbrev joined_cells : Cells → Line → Cells
joined_cells cells line =
    record {
      count = cells.count + length line;
      names = cells.names && all has_name_length line;
      bits = cells.bits && all is_bit line;
      ones = cells.ones + ones_in line;
    }

same_cells : {a b : Cells} → a.count ≡ b.count → a.names ≡ b.names → a.bits ≡ b.bits → a.ones ≡ b.ones → a ≡ b
same_cells count names bits ones = λ i. record { count = count i; names = names i; bits = bits i; ones = ones i }

add_cells_joined : (cells : Cells) (line : Line) → add_cells cells line ≡ joined_cells cells line
add_cells_joined cells [] =
    same_cells (omega arith) (sym (and-true cells.names)) (sym (and-true cells.bits)) (omega arith)
add_cells_joined cells (field ∷ rest) =
    add_cells_joined (add_cell cells field) rest
    ∙ same_cells (omega arith) (and_assoc cells.names (has_name_length field) (all has_name_length rest))
    (and_assoc cells.bits (is_bit field) (all is_bit rest)) (omega arith)

-- so fields added to none say what they say
pub cells_added : (line : Line) → add_cells no_cells line ≡ cells_of line
cells_added line =
    add_cells_joined no_cells line ∙ same_cells (zero-add (length line)) refl refl (zero-add (ones_in line))
