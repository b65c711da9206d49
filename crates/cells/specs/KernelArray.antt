-- A list of grants as an array of their cells' numbers: the grant of a number is that at the cell. The cells of a set
-- in rising number give its grants in order, and there are no more of them than of the sheet's grants.
use Rattle.std.specs.Prelude.{ℕ, zero, suc, ◌*◌, ◌≤◌, ◌<◌, ◌≡◌, refl, Bool, true, false, List, [], ◌∷◌, map, length, get_or, take}
use Rattle.std.proofs.Common.{suc-le-suc, le_refl, le_trans, not-suc-le-zero, le_of_suc-le-suc, sym, ap, ◌∙◌}
use Rattle.std.proofs.Math.Nat.{le_step}
use Rattle.std.proofs.lemmas.List.{length-map}
use Rattle.spec.specs.Vocabulary.{keep, filter}
use Rattle.spec.specs.Limits.{grant_limit}
use Rattle.spec.specs.Sheet.{Sheet, grants}
use Rattle.spec.specs.Reduction.{kernel}
use Rattle.spec.specs.Cover.{grant_at}
use Rattle.lists.specs.PassingBelow.{passing_below}
use Rattle.cell_rows.specs.Rows.{row_bits}
use Rattle.cells.specs.Blank.{BlankFrom}
use Rattle.cells.specs.CellSets.{in_cells, cell_grants}
use Rattle.cell_rows.specs.CellPlaces.{grant_of, marked, Shown, Part}
use Rattle.cells.specs.Laws.CellList.{cell_grants_by_cell}

pub grant_at_cell : (cells : List ℕ) (i : ℕ) → i < length cells → grant_at (map grant_of cells) i ≡ grant_of
    (get_or cells i 0)
grant_at_cell [] i l = absurd (not-suc-le-zero l)
grant_at_cell (n ∷ cells) zero l = refl
grant_at_cell (n ∷ cells) (suc i) l = grant_at_cell cells i (le_of_suc-le-suc l)

-- ---- a set in an array

-- so few cells below n are set that the array has room for them
abbrev pub Roomy : List ℕ → ℕ → Type 0
Roomy left n = length (passing_below n (marked left)) ≤ grant_limit

-- the first cells of the array are those of left, in rising number, and past them it is blank
pub record Listed (left : List ℕ) (users : ℕ) (cells : List ℕ) (size : ℕ) : Type 0 where
  pub few : size ≤ grant_limit
  pub in_order : take size cells ≡ passing_below (users * row_bits) (marked left)
  pub past : BlankFrom size cells

-- there is a sheet that the rows show, and the first cells of the array are those of its kernel
pub record KernelListed (rows cells : List ℕ) (size : ℕ) : Type 0 where
  pub users : ℕ
  pub sheet : Sheet
  pub shown : Shown rows users sheet
  pub kernel_cells : map grant_of (take size cells) ≡ kernel sheet
  pub few : size ≤ grant_limit

-- no more pass than there are
filter_length : {A : Type 0} (test : A → Bool) (l : List A) → length (filter test l) ≤ length l
filter_length test [] = le_refl 0
filter_length test (a ∷ l) = pick (test a) (filter_length test l)
  where
    pick : (b : Bool) → length (filter test l) ≤ length l → length (keep b a (filter test l)) ≤ suc (length l)
    pick true h = suc-le-suc h
    pick false h = le_step h

module _ {rows left : List ℕ} {users : ℕ} {sheet : Sheet} (shown : Shown rows users sheet) (part : Part left rows) where
  few_cells : length (passing_below (users * row_bits) (marked left)) ≤ length (grants sheet)
  few_cells =
      rw (sym (length-map (passing_below (users * row_bits) (marked left)) grant_of)
      ∙ ap length (sym (cell_grants_by_cell shown part)))
      (filter_length (in_cells left) (grants sheet))

  -- there is room for the cells of some grants of a sheet
  pub shown_roomy : length (grants sheet) ≤ grant_limit → Roomy left (users * row_bits)
  shown_roomy few = le_trans few_cells few

  -- and the grants at the listed cells are these grants
  pub listed_grants : {cells : List ℕ} {size : ℕ} → Listed left users cells size → map grant_of (take size cells) ≡
      cell_grants sheet left
  listed_grants listed = ap (map grant_of) listed.in_order ∙ sym (cell_grants_by_cell shown part)
