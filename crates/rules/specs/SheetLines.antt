-- The lines of a sheet and the sheet of lines undo each other: each user line is a name and one field for each cell,
-- and a cell's field says the cell. Assumes nothing.
use Rattle.std.specs.Prelude.{◌≤◌, ◌≡◌, refl, Bool, true, false, length}
use Rattle.std.proofs.Common.{not-suc-le-zero, arith, sym, ap, ◌∙◌, ⊎_elim}
use Rattle.std.proofs.Math.Bool.{So}
use mathlib.Core.List.{List, [], ◌∷◌, map, map-map, tail, Memᴰ}
use Rattle.std.proofs.lemmas.List.{length-map}
use Rattle.spec.specs.Text.{ascii, same_bytes, Bytes, Line, text_of}
use Rattle.spec.specs.Sheet.{Sheet, first_field, first_line, is_one, cell_text, sheet_of_lines, is_bit}
use Rattle.spec.specs.Rules.{user_lines, sheet_text}
use Rattle.bits.specs.Truth.{or_cases}
use Rattle.lists.specs.TestLaws.{same_bytes_equal}
use Rattle.lists.specs.JoinLaws.{map_fixed}

-- ---- cells

-- the field of a cell says the cell
pub cell_said : (cell : Bool) → is_one (cell_text cell) ≡ cell
cell_said true = refl
cell_said false = refl

pub cell_is_bit : (cell : Bool) → So (is_bit (cell_text cell))
cell_is_bit true = refl
cell_is_bit false = refl

-- and a field that is `0` or `1` is the field of the cell that it says
pub bit_spelled : (field : Bytes) → So (is_bit field) → cell_text (is_one field) ≡ field
bit_spelled field p =
    ⊎_elim (λ e. let q : field ≡ ascii "0" = same_bytes_equal field (ascii "0") e in rw q)
    (λ e. let q : field ≡ ascii "1" = same_bytes_equal field (ascii "1") e in rw q)
    (or_cases (same_bytes field (ascii "0")) (is_one field) p)

pub row_said : (row : List Bool) → map is_one (map cell_text row) ≡ row
row_said row = map-map is_one cell_text row ∙ map_fixed (λ cell. is_one (cell_text cell)) row (λ cell m. cell_said cell)

pub row_spelled : (line : Line) → ((field : Bytes) → Memᴰ field line → So (is_bit field))
    → map cell_text (map is_one line) ≡ line
row_spelled line h =
    map-map cell_text is_one line ∙ map_fixed (λ field. cell_text (is_one field)) line
    (λ field m. bit_spelled field (h field m))

-- ---- user lines

-- the cells that a user line says
abbrev pub cells : Line → List Bool
cells line = map is_one (tail line)

-- user lines say their names
pub users_said : (names : List Bytes) (rows : List (List Bool)) → length rows ≡ length names
    → map first_field (user_lines names rows) ≡ names
users_said [] [] e = refl
users_said [] (row ∷ rows) e = absurd (omega arith)
users_said (name ∷ names) [] e = absurd (omega arith)
users_said (name ∷ names) (row ∷ rows) e = rw (users_said names rows (omega arith))

-- and their rows
pub rows_said : (names : List Bytes) (rows : List (List Bool)) → length rows ≡ length names
    → map cells (user_lines names rows) ≡ rows
rows_said [] [] e = refl
rows_said [] (row ∷ rows) e = absurd (omega arith)
rows_said (name ∷ names) [] e = absurd (omega arith)
rows_said (name ∷ names) (row ∷ rows) e = rw (row_said row, rows_said names rows (omega arith))

pub length_user_lines : (names : List Bytes) (rows : List (List Bool)) → length rows ≡ length names
    → length (user_lines names rows) ≡ length names
length_user_lines names rows e =
    sym (length-map (user_lines names rows) first_field) ∙ ap length (users_said names rows e)

-- a user line: a name, then fields that are `0` or `1`
pub record UserLine (line : Line) : Type 0 where
  pub some_field : 1 ≤ length line
  pub bits : (field : Bytes) → Memᴰ field (tail line) → So (is_bit field)

pub user_line_spelled : (line : Line) → UserLine line → ◌≡◌ {A = Line} (first_field line ∷ map cell_text (cells line))
    line
user_line_spelled [] u = absurd (not-suc-le-zero u.some_field)
user_line_spelled (name ∷ rest) u = rw (row_spelled rest u.bits)

-- and user lines are those of the names and rows that they say
pub user_lines_spelled : (others : List Line) → ((line : Line) → Memᴰ line others → UserLine line)
    → user_lines (map first_field others) (map cells others) ≡ others
user_lines_spelled [] h = refl
user_lines_spelled (line ∷ others) h =
    rw (
      user_line_spelled line (h line (Memᴰ.head refl)),
      user_lines_spelled others
          (λ next m. h next (Memᴰ.tail m)),
    )

-- ---- all lines

-- the lines of a sheet
abbrev pub sheet_lines : Sheet → List Line
sheet_lines sheet = (ascii "user" ∷ sheet.permissions) ∷ user_lines sheet.users sheet.rows

pub sheet_text_lines : (sheet : Sheet) → sheet_text sheet ≡ text_of (sheet_lines sheet)
unfolding sheet_text
sheet_text_lines sheet = refl

-- the lines of a sheet say the sheet
pub sheet_said : (sheet : Sheet) → length sheet.rows ≡ length sheet.users → sheet_of_lines (sheet_lines sheet) ≡
    sheet
unfolding sheet_of_lines
sheet_said sheet e = rw (users_said sheet.users sheet.rows e, rows_said sheet.users sheet.rows e)

-- and lines that say a sheet are its lines
pub lines_spelled : (lines : List Line) → first_field (first_line lines) ≡ ascii "user" → 1 ≤ length (first_line lines)
    → ((line : Line) → Memᴰ line (tail lines) → UserLine line) → sheet_lines (sheet_of_lines lines) ≡ lines
unfolding sheet_of_lines
lines_spelled [] e some h = absurd (not-suc-le-zero some)
lines_spelled ([] ∷ others) e some h = absurd (not-suc-le-zero some)
lines_spelled ((field ∷ names) ∷ others) e some h = rw (user_lines_spelled others h, e)
