-- What a reduction finds of a sheet: each part is what document 01 says of that sheet. Assumes nothing.
use Rattle.std.specs.Prelude.{ℕ, ◌≡◌, List, length}
use Rattle.spec.specs.Limits.{grant_limit}
use Rattle.spec.specs.Sheet.{Sheet}
use Rattle.spec.specs.Reduction.{kernel}
use Rattle.spec.specs.Cover.{first_best}
use Rattle.cells.specs.Blank.{BlankFrom}
use Rattle.cell_rows.specs.CellPlaces.{Shown}
use Rattle.reduction.specs.ReductionResult.{ReducedFrom}
use Rattle.cells.specs.KernelArray.{Listed}
use Rattle.witness.specs.WitnessRows.{Witnessed}
use Rattle.cover.specs.CoverPlaced.{Placed}
use Rattle.table.specs.TableWords.{Table}
use Rattle.preparing.specs.declared.prepared.Prepared.{Prepared}

-- the rows show the sheet, and this was found of it
pub record PreparedFor (sheet : Sheet) (rows : List ℕ) (users : ℕ) (p : Prepared) : Type 0 where
  pub shown : Shown rows users sheet
  pub reduced : ReducedFrom rows users p.reduced
  pub listed : Listed p.reduced.left users p.kernel.cells p.kernel.size
  pub room : length p.kernel.cells ≡ grant_limit
  pub kernel_size : p.kernel.size ≡ length (kernel sheet)
  pub witness : Witnessed sheet rows p.witness.cells p.witness.count
  pub first : Placed (first_best sheet) p.first.classes p.kernel.size p.first.used
  pub first_room : length p.first.classes ≡ grant_limit
  pub first_past : BlankFrom p.kernel.size p.first.classes
  pub table : Table sheet (kernel sheet) p.table
