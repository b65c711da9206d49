-- The terms of the argument: a sheet of even rows, a classing of some grants, and grants of which no two fit.
use Rattle.std.specs.Prelude.{ℕ, ◌<◌, ◌≡◌, Bool, false, length}
use Rattle.std.proofs.Math.Bool.{So}
use mathlib.Core.List.{List, Memᴰ}
use Rattle.spec.specs.Sheet.{Sheet, Grant}
use Rattle.spec.specs.Fit.{fits}
use Rattle.spec.specs.Cover.{grant_at}

-- a row for each user, and in each row a cell for each permission, as every accepted sheet has
pub record Even (sheet : Sheet) : Type 0 where
  pub a_row_each : length sheet.rows ≡ length sheet.users
  pub even_rows : (row : List Bool) → Memᴰ row sheet.rows → length row ≡ length sheet.permissions

-- class numbers below count for some grants, such that any two of one class fit (cliques of the edge dual)
pub record ClassingOf (sheet : Sheet) (grants : List Grant) (count : ℕ) (class : Grant → ℕ) : Type 0 where
  pub within : (g : Grant) → Memᴰ g grants → class g < count
  pub fitting : (g h : Grant) → Memᴰ g grants → Memᴰ h grants → class g ≡ class h → So (fits sheet g h)

-- no two grants of a list fit (an independent set of the edge dual)
pub record Independent (sheet : Sheet) (grants : List Grant) : Type 0 where
  pub apart : (i j : ℕ) → i < j → j < length grants → fits sheet (grant_at grants i) (grant_at grants j) ≡ false
