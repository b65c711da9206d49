-- A sheet whose names are names is read as it was written: its fields hold neither comma nor line feed, since names
-- and cells are spelled with the bytes of names. Assumes nothing.
use Rattle.std.specs.Prelude.{ℕ, ◌≤◌, ◌≡◌, refl, Bool, true, false, length}
use Rattle.std.proofs.Common.{arith, ◌∙◌, ⊎_elim}
use Rattle.std.proofs.Math.Path.{ap}
use Rattle.std.proofs.Math.Bool.{So}
use mathlib.Core.List.Memᴰ
use mathlib.Core.List.{List, [], ◌∷◌, map, Memᴰ}
use Rattle.spec.specs.Text.{ascii, Bytes, Line, name_byte, lines_of}
use Rattle.spec.specs.Sheet.{Sheet, cell_text, sheet_of_lines, sheet_of}
use Rattle.spec.specs.Rules.{Name, user_lines, sheet_text}
use Rattle.lists.specs.TestLaws.{all_elim}
use Rattle.text.specs.Laws.Text.{Field, read_as_written}
use Rattle.text.specs.Laws.Byte.{name_byte_no_comma, name_byte_no_line_feed}
use Rattle.rules.specs.SheetLines.{sheet_lines, sheet_text_lines, sheet_said}

-- all bytes are bytes of a name
abbrev pub Spelled : Bytes → Type 0
Spelled field = (b : ℕ) → Memᴰ b field → So (name_byte b)

-- so spelled, it is a field that a line can hold
pub spelled_field : (field : Bytes) → Spelled field → Field field
spelled_field field s =
    record { no_comma = λ b m. name_byte_no_comma b (s b m); no_line_feed = λ b m. name_byte_no_line_feed b (s b m) }

user_spelled : Spelled (ascii "user")
unfolding name_byte
user_spelled b m = all_elim name_byte (ascii "user") refl m

cell_spelled : (cell : Bool) → Spelled (cell_text cell)
unfolding name_byte
cell_spelled true b m = all_elim name_byte (ascii "1") refl m
cell_spelled false b m = all_elim name_byte (ascii "0") refl m

-- a user line is a name and the cells of a row
pub record UserRow (names : List Bytes) (rows : List (List Bool)) (line : Line) : Type 0 where
  pub name : Bytes
  pub name_member : Memᴰ name names
  pub row : List Bool
  pub row_member : Memᴰ row rows
  pub says : line ≡ name ∷ map cell_text row

-- every user line is such a line
pub user_row : (names : List Bytes) (rows : List (List Bool)) (line : Line) → Memᴰ line (user_lines names rows)
    → UserRow names rows line
user_row [] rows line m = absurd (Memᴰ.not-nil m)
user_row (name ∷ names) [] line m = absurd (Memᴰ.not-nil m)
user_row (name ∷ names) (row ∷ rows) line m = ⊎_elim here (λ n. later (user_row names rows line n))
    (Memᴰ.cases_cons m)
  where
    here : line ≡ name ∷ map cell_text row → UserRow (name ∷ names) (row ∷ rows) line
    here e =
        record { name = name; name_member = Memᴰ.head refl; row = row; row_member = Memᴰ.head refl; says = e }

    later : UserRow names rows line → UserRow (name ∷ names) (row ∷ rows) line
    later r =
        record {
          name = r.name;
          name_member = Memᴰ.tail r.name_member;
          row = r.row;
          row_member = Memᴰ.tail r.row_member;
          says = r.says;
        }

-- these bytes are this sheet's, and its names are names
pub record SheetWritten (text : Bytes) (sheet : Sheet) : Type 0 where
  pub written : text ≡ sheet_text sheet
  pub permissions_named : (name : Bytes) → Memᴰ name sheet.permissions → Name name
  pub users_named : (name : Bytes) → Memᴰ name sheet.users → Name name
  pub a_row_each : length sheet.rows ≡ length sheet.users

module _ (text : Bytes) (sheet : Sheet) (w : SheetWritten text sheet) where
  first_spelled : (field : Bytes) → Memᴰ field (ascii "user" ∷ sheet.permissions) → Spelled field
  first_spelled field m b n =
      ⊎_elim (λ e. user_spelled b (rw e at n)) (λ p. (w.permissions_named field p).spelled b n) (Memᴰ.cases_cons m)

  row_spelled : (line : Line) → UserRow sheet.users sheet.rows line → (field : Bytes) → Memᴰ field line
      → Spelled field
  row_spelled line r field m b n =
      ⊎_elim (λ e. (w.users_named r.name r.name_member).spelled b (rw e at n))
      (λ p. let c = Memᴰ.of_map cell_text r.row p in cell_spelled c.0 b (rw (← c.2) at n))
      (Memᴰ.cases_cons (rw r.says at m))

  pub line_spelled : (line : Line) → Memᴰ line (sheet_lines sheet) → (field : Bytes) → Memᴰ field line
      → Spelled field
  line_spelled line m field n =
      ⊎_elim (λ e. first_spelled field (rw e at n)) (λ p. row_spelled line (user_row sheet.users sheet.rows line
      p) field n)
      (Memᴰ.cases_cons m)

  line_some : (line : Line) → Memᴰ line (sheet_lines sheet) → 1 ≤ length line
  line_some line m =
      ⊎_elim (λ e. rw e (omega arith)) (λ p. rw (user_row sheet.users sheet.rows line p).says (omega arith))
      (Memᴰ.cases_cons m)

  -- the bytes are read as the lines that were written
  pub written_lines : lines_of text ≡ sheet_lines sheet
  written_lines =
      ap (λ (t : Bytes). lines_of t) (w.written ∙ sheet_text_lines sheet)
      ∙ read_as_written (sheet_lines sheet) (λ line m.
      record { some_field = line_some line m; each = λ field n. spelled_field field (line_spelled line m field n) })

  -- and as the sheet that was written
  pub written_sheet : sheet_of text ≡ sheet
  unfolding sheet_of
  written_sheet = ap sheet_of_lines written_lines ∙ sheet_said sheet w.a_row_each
