-- The reduction at work: the cells that remain, and the removals so far as two lists of cells. What it says of every
-- sheet that the rows show is a state of the definition, and visiting some cells takes it to the state that the
-- visits of their grants lead to.
use Rattle.std.specs.Prelude.{ℕ, ◌+◌, ◌*◌, ◌≤◌, ◌<◌, ◌≡◌, ◌≢◌, not, ◌&&◌, eqb, length, get_or}
use Rattle.std.proofs.Math.Bool.{So}
use mathlib.Core.List.{List, map, Memᴰ}
use Rattle.spec.specs.Limits.{grant_limit}
use Rattle.spec.specs.Sheet.{Sheet}
use Rattle.spec.specs.Reduction.{Reduction, visits, reduction}
use Rattle.bits.specs.Bit.{bit, word_bits}
use Rattle.bits.specs.Counting.{count_below}
use Rattle.lists.specs.PassingBelow.{passing_below}
use Rattle.cells.specs.Blank.{BlankFrom}
use Rattle.cells.specs.CellSets.{cell_grants}
use Rattle.cell_rows.specs.CellPlaces.{cell_limit, grant_of, marked, Shown, Shows, Part}
use Rattle.verdict.specs.Log.{log_of}

-- what remains, and so many removals
pub record Work : Type 0 where
  pub left : List ℕ
  pub removed : List ℕ
  pub partner : List ℕ
  pub count : ℕ

abbrev pub work_of : List ℕ → List ℕ → List ℕ → ℕ → Work
work_of left removed partner count = record { left = left; removed = removed; partner = partner; count = count }

-- what it says of a sheet
abbrev pub state_of : Sheet → Work → Reduction
state_of sheet work =
    record {
      remaining = cell_grants sheet work.left;
      removed = log_of work.removed work.partner
          work.count;
    }

-- the cells at the positions of a word, in rising number
abbrev pub word_cells : ℕ → ℕ → List ℕ
word_cells i w = map (λ q. i * word_bits + q) (passing_below word_bits (bit w))

-- how many cells remain
abbrev pub remaining_cells : List ℕ → ℕ
remaining_cells left = count_below cell_limit (marked left)

-- the lists have a place for every removal that there can be, the removals are of cells, and past them the lists are
-- blank
pub record Logged (work : Work) : Type 0 where
  pub removed_length : length work.removed ≡ grant_limit
  pub partner_length : length work.partner ≡ grant_limit
  pub removed_cell : (i : ℕ) → i < work.count → get_or work.removed i 0 < cell_limit
  pub partner_cell : (i : ℕ) → i < work.count → get_or work.partner i 0 < cell_limit
  pub removed_blank : BlankFrom work.count work.removed
  pub partner_blank : BlankFrom work.count work.partner

-- the work can go on: the rows show a sheet, only cells of them remain, and the log has room for all of them
pub record WorkReady (rows : List ℕ) (users : ℕ) (work : Work) : Type 0 where
  pub shows : Shows rows users
  pub part : Part work.left rows
  pub room : work.count + remaining_cells work.left ≤ grant_limit
  pub logged : Logged work

-- some cells were visited, in this order
pub record Visited (rows : List ℕ) (users : ℕ) (cells : List ℕ) (before after : Work) : Type 0 where
  pub part : Part after.left before.left
  pub kept : (n : ℕ) → (Memᴰ n cells → ⊥) → marked after.left n ≡ marked before.left n
  pub total : after.count + remaining_cells after.left ≡ before.count + remaining_cells before.left
  pub logged : Logged after
  pub state : (sheet : Sheet) → Shown rows users sheet → state_of sheet after ≡ visits sheet (map grant_of cells)
      (state_of sheet before)

-- the work is done: what it says of every sheet that the rows show is the whole reduction
pub record Settled (rows : List ℕ) (users : ℕ) (work : Work) : Type 0 where
  pub ready : WorkReady rows users work
  pub whole : (sheet : Sheet) → Shown rows users sheet → state_of sheet work ≡ reduction sheet

-- a cell that remains can be removed, with the partner that it is tied to, or itself
pub record Removable (it other : ℕ) (work : Work) : Type 0 where
  pub set : So (marked work.left it)
  pub it_cell : it < cell_limit
  pub other_cell : other < cell_limit
  pub room : work.count < grant_limit
  pub logged : Logged work

-- it was removed
pub record Removed (it other : ℕ) (before after : Work) : Type 0 where
  pub left : (n : ℕ) → marked after.left n ≡ (marked before.left n && not (eqb n it))
  pub one_more : after.count ≡ before.count + 1
  pub removed_length : length after.removed ≡ length before.removed
  pub partner_length : length after.partner ≡ length before.partner
  pub removed_last : get_or after.removed before.count 0 ≡ it
  pub partner_last : get_or after.partner before.count 0 ≡ other
  pub removed_kept : (i : ℕ) → i ≢ before.count → get_or after.removed i 0 ≡ get_or before.removed i 0
  pub partner_kept : (i : ℕ) → i ≢ before.count → get_or after.partner i 0 ≡ get_or before.partner i 0
