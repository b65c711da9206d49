-- Classes by cell: an array with the class of the grant at each cell, 0 at the other cells, as `class_of` says of any
-- grant. Assumes nothing.
use Rattle.std.specs.Prelude.{ℕ, ◌/◌, ◌<◌, ◌≡◌, List, reverse, length, get_or}
use Rattle.spec.specs.Vocabulary.{list_of}
use Rattle.spec.specs.Sheet.{Grant}
use Rattle.spec.specs.Reduction.{Reduction}
use Rattle.spec.specs.Roles.{Classed, Classes, paired, class_of, classes_of}
use Rattle.lists.specs.LatestFirst.{latest_first}
use Rattle.cell_rows.specs.Rows.{row_bits}
use Rattle.cell_rows.specs.CellPlaces.{cell_limit, grant_of}
use Rattle.verdict.specs.Log.{log_of}

-- the array has the class of each cell
pub record ClassAt (class : List ℕ) (members : List Classed) : Type 0 where
  pub wide : length class ≡ cell_limit
  pub shown : (n : ℕ) → n < cell_limit → get_or class n 0 ≡ class_of members (grant_of n)

-- the array and the count are those of the classes
pub record ClassesAt (class : List ℕ) (count : ℕ) (classes : Classes) : Type 0 where
  pub each : ClassAt class classes.members
  pub total : count ≡ classes.count

-- the grants at the first cells of an array
abbrev pub listed : List ℕ → ℕ → List Grant
listed cells size = list_of size (λ i. grant_of (get_or cells i 0))

-- these grants with classes from another array, the latest first
abbrev pub paired_in : List ℕ → List ℕ → ℕ → List Classed
paired_in cells placed size = paired (reverse (listed cells size)) (latest_first placed size)

-- the first numbers of an array are cells
pub record CellsBelow (size : ℕ) (cells : List ℕ) : Type 0 where
  pub below : (i : ℕ) → i < size → get_or cells i 0 < cell_limit

-- these are cells of the first so many users
pub record UsersBelow (users size : ℕ) (cells : List ℕ) : Type 0 where
  pub below : (i : ℕ) → i < size → get_or cells i 0 / row_bits < users

-- what a reduction left and removed, as arrays of cells say it
abbrev pub reduction_in : List ℕ → List ℕ → List ℕ → Reduction
reduction_in kernel removed partner =
    record { remaining = listed kernel (length kernel); removed = log_of removed partner (length removed) }

-- the classes of all grants, as arrays say them
abbrev pub classes_in : List ℕ → List ℕ → List ℕ → List ℕ → Classes
classes_in kernel placed removed partner =
    classes_of (reduction_in kernel removed partner) (latest_first placed (length kernel))
