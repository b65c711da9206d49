-- A cell takes two bytes, and is written as they are.
use Rattle.std.specs.Prelude.{ℕ, ◌≤◌, ◌≡◌, refl, Bool, true, false, [], ◌∷◌, length, set}
use Rattle.std.proofs.Common.{arith}
use Rattle.spec.specs.Text.{Bytes, comma}
use Rattle.spec.specs.Sheet.{cell_text}
use Rattle.cell_text.specs.CellsText.{cell_field}
use Rattle.text.specs.Written.{Written, nothing_written, byte_written}

pub cell_field_length : (b : Bool) → length (cell_field b) ≡ 2
cell_field_length true = refl
cell_field_length false = refl

pub cell_written : (b : Bool) (byte : ℕ) (before : Bytes) → length (cell_field b) ≤ length before
    → byte ∷ [] ≡ cell_text b
    → Written (cell_field b) before (set (set before 0 comma) 1 byte) 2
cell_written b byte before fits e =
    let two = cell_field_length b in
    rw (← e) (byte_written (comma ∷ []) byte (omega arith) (byte_written [] comma (omega arith)
    (nothing_written before)))
