-- What the roles of a sheet are found from: the rows of the sheet, its kernel as cells in order, a placement of it as
-- an array of class numbers, and the log of its reduction as two arrays of cells. Assumes nothing.
use Rattle.std.specs.Prelude.{ℕ, ◌≤◌, ◌≡◌, List, map, length}
use Rattle.spec.specs.Limits.{user_limit, grant_limit}
use Rattle.spec.specs.Sheet.{Sheet, grants}
use Rattle.spec.specs.Reduction.{reduction, kernel}
use Rattle.spec.specs.Roles.{roles_of}
use Rattle.cell_rows.specs.Rows.{row_bits}
use Rattle.cell_rows.specs.CellPlaces.{grant_of, Shown}
use Rattle.cover.specs.CoverPlaced.{Placed}
use Rattle.verdict.specs.Log.{log_of}

-- the arrays are those of a sheet and of a placement of its kernel, within the limits
pub record Belongs (rows : List ℕ) (users : ℕ) (cells placed : List ℕ) (total : ℕ) (removed partner : List ℕ)
    (sheet : Sheet) (placement : List ℕ) : Type 0 where
  pub shown : Shown rows users sheet
  pub few_users : users ≤ user_limit
  pub few_grants : length (grants sheet) ≤ grant_limit
  pub kernel_listed : map grant_of cells ≡ kernel sheet
  pub each_placed : length placed ≡ length cells
  pub placement_held : Placed placement placed (length cells) total
  pub few_classes : total ≤ grant_limit
  pub log_held : log_of removed partner (length removed) ≡ (reduction sheet).removed
  pub each_partner : length partner ≡ length removed
  pub few_removals : length removed ≤ grant_limit
  pub few_roles : (roles_of sheet placement).count ≤ row_bits

-- there is such a sheet and such a placement
pub record OfSheet (rows : List ℕ) (users : ℕ) (cells placed : List ℕ) (total : ℕ) (removed partner : List ℕ)
    : Type 0 where
  pub sheet : Sheet
  pub placement : List ℕ
  pub belongs : Belongs rows users cells placed total removed partner sheet placement
