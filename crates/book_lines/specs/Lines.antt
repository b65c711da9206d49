-- The lines of a book, from the names and the cells that they hold. Assumes nothing.
use Rattle.std.specs.Prelude.{ℕ, List, [], ◌∷◌, ◌++◌}
use Rattle.spec.specs.Text.{Bytes, line_text}
use Rattle.spec.specs.Sheet.{Sheet}
use Rattle.cell_text.specs.CellsText.{cells_text}
use Rattle.text.specs.Line.{behind_comma, line_end}

-- a name and so many cells of a row
abbrev pub named_line : Bytes → List ℕ → ℕ → ℕ → Bytes
named_line name words row count = (name ++ cells_text words row count) ++ line_end

-- two names
abbrev pub pair_line : Bytes → Bytes → Bytes
pair_line user permission = (user ++ behind_comma permission) ++ line_end

-- the permissions of a sheet behind a first word: a comma before each, then the line feed
abbrev pub permissions_line : Sheet → Bytes
permissions_line sheet = line_text ([] ∷ sheet.permissions)
