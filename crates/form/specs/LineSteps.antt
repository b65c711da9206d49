-- Reading what stands behind the name of a line: cells, which are read into a row, and the end of the line.
use Rattle.std.specs.Prelude.{ℕ, ◌≡◌, Bool, List, length, Option, Some, None}
use Rattle.spec.specs.Text.{Bytes}
use Rattle.cell_rows.specs.Rows.{cell}
use Rattle.text.specs.Line.{line_end}
use Rattle.cells_read.specs.CellsWord.{cells_text}
use Rattle.cells_read.specs.RowGrown.{Grown}
use Rattle.cells_read.specs.RowCells.{RowRead, cells_text_aligned}
use Rattle.steps.specs.Stands.{Stands}
use Rattle.steps.specs.Laws.Stands.{stands_then}
use Rattle.steps.specs.Laws.Aligned.{Aligned, aligned_same, aligned_length, aligned_then}
use Rattle.steps.specs.Steps.{Misses}
use Rattle.steps.specs.Laws.Step.{misses_first, misses_after}
use Rattle.form.specs.Pieces.{row_text, named_text}
use Rattle.form.specs.RowCleared.{RowCleared}

-- cells and the end of their line were read into a row
pub record LineRead (text : Bytes) (at : ℕ) (row count : ℕ) (words after : List ℕ) (next : ℕ) : Type 0 where
  pub reads : Stands text at (row_text count (cell after row)) next
  pub grown : Grown words after row count

-- a step over them; where they do not stand, their row has no cell set and no other has changed
abbrev pub LineReads : Bytes → ℕ → ℕ → ℕ → List ℕ → List ℕ → Option ℕ → Type 0
LineReads text at row count words after (Some next) = LineRead text at row count words after next
LineReads text at row count words after None =
    ((cells : ℕ → Bool) → Misses text at (row_text count cells)) × RowCleared words after row

pub no_cells : {text : Bytes} {at : ℕ} (count : ℕ) → ((cells : ℕ → Bool) → Misses text at (cells_text count cells))
    → (cells : ℕ → Bool) → Misses text at (row_text count cells)
no_cells count m cells = misses_first line_end (m cells)

-- with the cells there, the end of the line decides
module _ {text : Bytes} {at end row count : ℕ} {words after : List ℕ} (p : RowRead text at row count words after end)
  where
    pub ended : {next : ℕ} → Stands text end line_end next → LineRead text at row count words after next
    ended e = record { reads = stands_then p.reads e; grown = p.grown }

    pub no_end : Misses text end line_end → (cells : ℕ → Bool) → Misses text at (row_text count cells)
    no_end m cells = misses_after line_end p.reads (cells_text_aligned count (cell after row) cells) m

-- ---- lines of a name and cells

-- two lines whose names are as long
pub named_aligned : (a b : Bytes) → length a ≡ length b → (count : ℕ) (f g : ℕ → Bool)
    → Aligned (named_text a count f) (named_text b count g)
named_aligned a b same count f g =
    aligned_then (aligned_length a b same) (aligned_then (cells_text_aligned count f g) (aligned_same line_end))
