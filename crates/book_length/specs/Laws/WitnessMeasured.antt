-- The length of a witness line: the bytes of its two names, a comma and a line feed.
use Rattle.std.specs.Prelude.{ℕ, ◌+◌, ◌≤◌, ◌≡◌, ◌++◌, length}
use Rattle.std.proofs.Common.{arith, ap, ◌∙◌, length-append}
use Rattle.spec.specs.Limits.{name_limit}
use Rattle.spec.specs.Text.{Bytes}
use Rattle.spec.specs.Sheet.{Sheet, user_name, permission_name}
use Rattle.cell_rows.specs.CellPlaces.{grant_of}
use Rattle.decimal.specs.Measured.{Measured, piece_most}
use Rattle.text.specs.Line.{behind_comma, line_end}
use Rattle.blocks.specs.WitnessText.{cell_line, cell_said}

-- a name, fields behind it, and the line feed
pub ended_length : (a b : Bytes) → length ((a ++ b) ++ line_end) ≡ length a + length b + 1
ended_length a b = length-append (a ++ b) line_end ∙ ap (λ n. n + 1) (length-append a b)

pub cell_measured : (sheet : Sheet) (cell : ℕ) {u p : ℕ} {user permission : Bytes} → u ≡ (grant_of cell).user
    → p ≡ (grant_of cell).permission → user ≡ user_name sheet u → permission ≡ permission_name sheet p
    → length user ≤ name_limit → length permission ≤ name_limit
    → Measured (cell_line sheet cell) piece_most (length user + length permission + 2)
unfolding name_limit
cell_measured sheet cell {user = user} {permission = permission} a b e f h k = record {
  counted = omega (
    arith,
    ended_length user (behind_comma permission),
    ap length (cell_said sheet cell a b e f),
  );
  small = omega arith;
}
