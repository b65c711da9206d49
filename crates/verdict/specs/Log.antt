-- The log of a reduction as two arrays of cells.
use Rattle.std.specs.Prelude.{ℕ, zero, suc, cond, List, [], ◌∷◌, eqb, get_or}
use Rattle.spec.specs.Reduction.{Removal, single, tied}
use Rattle.cell_rows.specs.CellPlaces.{grant_of}

-- a removal by its cell and its partner's: a grant whose partner is itself was removed as single
abbrev pub removal_of : ℕ → ℕ → Removal
removal_of it other = cond (eqb it other) (single (grant_of it)) (tied (grant_of it) (grant_of other))

-- removal i, as two lists of cells say it
abbrev pub removal_at : List ℕ → List ℕ → ℕ → Removal
removal_at removed partner i = removal_of (get_or removed i 0) (get_or partner i 0)

-- the first so many removals, the latest first
abbrev pub log_of : List ℕ → List ℕ → ℕ → List Removal
log_of removed partner zero = []
log_of removed partner (suc n) = removal_at removed partner n ∷ log_of removed partner n
