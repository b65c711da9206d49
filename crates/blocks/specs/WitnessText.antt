-- Block 4 from a list of cells: behind the line of names a line for each cell, in the order of the list. Assumes
-- nothing.
use Rattle.std.specs.Prelude.{ℕ, ◌≡◌, List, ◌++◌, map, length, get_or}
use Rattle.std.proofs.Common.{sym, ap, ◌∙◌}
use Rattle.spec.specs.Vocabulary.{list_of}
use Rattle.spec.specs.Text.{ascii, Bytes, Line, line_text, text_of}
use Rattle.spec.specs.Sheet.{Sheet, user_name, permission_name}
use Rattle.spec.specs.Book.{witness_heading, witness_line, witness_block}
use Rattle.lists.specs.ListOfLaws.{list_of_places, map_list_of}
use Rattle.lists.specs.Listed.{listed}
use Rattle.cell_rows.specs.CellPlaces.{grant_of}
use Rattle.book_lines.specs.Lines.{pair_line}
use Rattle.text.specs.Laws.Line.{block_parts}

-- the line of a cell
abbrev pub cell_line : Sheet → ℕ → Bytes
cell_line sheet cell = line_text (witness_line sheet (grant_of cell))

-- the lines of some cells
abbrev pub cell_lines : Sheet → List ℕ → Bytes
cell_lines sheet cells = listed (length cells) (λ i. cell_line sheet (get_or cells i 0))

-- the line of a cell is that of its two names
pub cell_said : (sheet : Sheet) (cell : ℕ) {u p : ℕ} {user permission : Bytes} → u ≡ (grant_of cell).user
    → p ≡ (grant_of cell).permission → user ≡ user_name sheet u → permission ≡ permission_name sheet p
    → pair_line user permission ≡ cell_line sheet cell
cell_said sheet cell a b e f = rw (e, f, a, b)

-- the lines of block 4 by the places of the cells
lines_by_place : (sheet : Sheet) (cells : List ℕ)
    → map (witness_line sheet) (map grant_of cells)
    ≡ list_of (length cells) (λ i. witness_line sheet (grant_of (get_or cells i 0)))
lines_by_place sheet cells =
    ap (λ (l : List ℕ). map (witness_line sheet) (map grant_of l)) (sym (list_of_places cells 0))
    ∙ ap (map (witness_line sheet)) (map_list_of grant_of (length cells) (λ i. get_or cells i 0))
    ∙ map_list_of (witness_line sheet) (length cells) (λ i. grant_of (get_or cells i 0))

-- block 4
pub witness_parts : (sheet : Sheet) (cells : List ℕ)
    → text_of (witness_block (map (witness_line sheet) (map grant_of cells)))
    ≡ ascii "user,permission\n" ++ cell_lines sheet cells
witness_parts sheet cells =
    ap (λ (l : List Line). text_of (witness_block l)) (lines_by_place sheet cells)
    ∙ block_parts witness_heading (length cells) (λ i. witness_line sheet (grant_of (get_or cells i 0)))
