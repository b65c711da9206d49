-- The length of a book is one sum: the bytes of its counts and of its names, two for each cell, one for each end of a
-- line and each comma of a heading, the first words of the headings and the empty lines, and the bytes of its
-- witness.
use Rattle.std.specs.Prelude.{ℕ, ◌+◌, ◌*◌, ◌≡◌, List, ◌++◌, map, length}
use Rattle.std.proofs.Common.{arith, ap, ◌∙◌, length-append}
use Rattle.spec.specs.Text.{ascii, Bytes, line_text, text_of}
use Rattle.spec.specs.Sheet.{Sheet, sheet_of, user_count, permission_count, user_name, permission_name}
use Rattle.spec.specs.Book.{role_name, witness_line, witness_block}
use Rattle.bits.specs.Counting.{sum_below}
use Rattle.lists.specs.Listed.{listed, listed_even}
use Rattle.cell_rows.specs.Rows.{cell}
use Rattle.cell_rows.specs.CellPlaces.{grant_of}
use Rattle.decimal.specs.Measured.{Measured, line_most, block_most}
use Rattle.cell_text.specs.CellsText.{cell_field, cells_text}
use Rattle.cell_text.specs.Laws.CellsWritten.{cell_field_length}
use Rattle.text.specs.Line.{behind_comma, line_end}
use Rattle.text.specs.Laws.Line.{line_parts_of}
use Rattle.book_lines.specs.CountsText.{counts_text}
use Rattle.book_lines.specs.Lines.{named_line}
use Rattle.book_lines.specs.RowsSaid.{role_heading, role_line, user_line, shown_roles, shown_users}
use Rattle.blocks.specs.Laws.Shown.{role_fields, role_lines, user_lines, roles_parts, users_parts}
use Rattle.blocks.specs.Laws.Shown.{role_line_parts, user_line_parts}
use Rattle.blocks.specs.WitnessText.{cell_lines, witness_parts}
use Rattle.book_lines.specs.declared.counts.Counts.{Counts}
use Rattle.book_length.specs.BookRows.{rows_book, book_parts}
use Rattle.book_length.specs.NameBytes.{role_name_bytes}
use Rattle.book_length.specs.Laws.SumOfParts.{listed_sum}
use Rattle.book_length.specs.Laws.WitnessMeasured.{ended_length}

-- a name and its cells
named_length : (name : Bytes) (words : List ℕ) (row count : ℕ)
    → length (named_line name words row count) ≡ length name + (2 * count + 1)
named_length name words row count =
    omega (
      arith,
      ended_length name (cells_text words row count),
      listed_even count 2 (λ i. cell_field (cell words row i)) (λ i h. cell_field_length (cell words row i)),
    )

-- a heading and lines
block_length : (word fields lines : Bytes)
    → length (((word ++ fields) ++ line_end) ++ lines) ≡ length word + length fields + 1 + length lines
block_length word fields lines =
    omega (arith, length-append ((word ++ fields) ++ line_end) lines, ended_length word fields)

-- the bytes of the names of a sheet
abbrev pub user_bytes : Sheet → ℕ
user_bytes sheet = sum_below (user_count sheet) (λ u. length (user_name sheet u))

abbrev pub permission_bytes : Sheet → ℕ
permission_bytes sheet = sum_below (permission_count sheet) (λ p. length (permission_name sheet p))

module _ (sheet : Sheet) (count : ℕ) where
  roles_length : (gives : List ℕ)
      → length (text_of (shown_roles sheet gives count))
      ≡ 5 + (permission_bytes sheet + permission_count sheet)
      + (role_name_bytes count + count * (2 * permission_count sheet + 1))
  roles_length gives =
      omega (
        arith,
        ap length (roles_parts sheet gives count),
        length-append (line_text (role_heading sheet)) (role_lines gives (permission_count sheet) count),
        ap length (line_parts_of (ascii "role") sheet.permissions),
        ended_length (ascii "role") (listed (permission_count sheet) (λ p. behind_comma (permission_name sheet p))),
        listed_sum (permission_count sheet) 1 (λ p. behind_comma (permission_name sheet p))
            (λ p. length (permission_name sheet p)) (λ p h. omega arith),
        listed_sum count (2 * permission_count sheet + 1)
            (λ r. line_text (role_line gives (permission_count sheet) r)) (λ r. length (role_name r)) (λ r h.
            ap length (role_line_parts gives (permission_count sheet) r)
            ∙ named_length (role_name r) gives r (permission_count sheet)),
      )

  users_length : (has : List ℕ)
      → length (text_of (shown_users sheet has count))
      ≡ 5 + (role_name_bytes count + count) + (user_bytes sheet + user_count sheet * (2 * count + 1))
  users_length has =
      omega (
        arith,
        ap length (users_parts sheet has count),
        block_length (ascii "user") (role_fields count) (user_lines sheet has count),
        listed_sum count 1 (λ r. behind_comma (role_name r)) (λ r. length (role_name r)) (λ r h. omega arith),
        listed_sum (user_count sheet) (2 * count + 1) (λ u. line_text (user_line sheet has count u))
            (λ u. length (user_name sheet u)) (λ u h.
            ap length (user_line_parts sheet has count u) ∙ named_length (user_name sheet u) has u count),
      )

-- a text, the byte that ends an empty line, and another text
gap_length : (a b : Bytes) → length ((a ++ line_end) ++ b) ≡ length a + 1 + length b
gap_length a b = omega (arith, length-append (a ++ line_end) b, length-append a line_end)

book_measured : (text : Bytes) (has gives cells : List ℕ) (counts : Counts)
    → length (rows_book text has gives cells counts)
    ≡ length (counts_text counts) + (29 + permission_count (sheet_of text) + counts.roles)
    + (user_bytes (sheet_of text) + permission_bytes (sheet_of text)
    + 2 * role_name_bytes counts.roles)
    + (counts.roles * (2 * permission_count (sheet_of text) + 1) + user_count (sheet_of text) *
    (2 * counts.roles + 1))
    + length (cell_lines (sheet_of text) cells)
book_measured text has gives cells counts =
    let sheet : Sheet = sheet_of text in
    let one : Bytes = counts_text counts in
    let two : Bytes = text_of (shown_roles sheet gives counts.roles) in
    let three : Bytes = text_of (shown_users sheet has counts.roles) in
    let four : Bytes = text_of (witness_block (map (witness_line sheet) (map grant_of cells))) in
    omega (
      arith,
      roles_length sheet counts.roles gives,
      users_length sheet counts.roles has,
      ap length (witness_parts sheet cells),
      ap length (book_parts text has gives cells counts),
      gap_length ((((one ++ line_end) ++ two) ++ line_end) ++ three) four,
      gap_length ((one ++ line_end) ++ two) three,
      gap_length one two,
    )

-- the sum of what is counted
pub book_sum : (text : Bytes) (has gives cells : List ℕ) (counts : Counts) {users permissions : ℕ}
    → users ≡ user_count (sheet_of text) → permissions ≡ permission_count (sheet_of text)
    → {first users_in permissions_in roles_in shown : ℕ}
    → Measured (counts_text counts) line_most first
    → users_in ≡ user_bytes (sheet_of text)
    → permissions_in ≡ permission_bytes (sheet_of text)
    → roles_in ≡ role_name_bytes counts.roles
    → Measured (cell_lines (sheet_of text) cells) block_most shown
    → first + (29 + permissions + counts.roles) + (users_in + permissions_in + 2 * roles_in)
    + (counts.roles * (2 * permissions + 1) + users * (2 * counts.roles + 1)) + shown
    ≡ length (rows_book text has gives cells counts)
book_sum text has gives cells counts e f a u p r d =
    rw (e, f) (omega (arith, a.counted, u, p, r, d.counted, book_measured text has gives cells counts))
