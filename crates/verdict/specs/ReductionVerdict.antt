-- What the code's answers say: the lowest cell of a range to which a grant is tied, and the verdict that the
-- definition names. Assumes nothing.
use Rattle.std.specs.Prelude.{ℕ, ◌≤◌, ◌<◌, ◌≡◌, ◌≢◌, Bool, false, List, Option, Some, None}
use Rattle.std.proofs.Math.Bool.{So}
use Rattle.spec.specs.Sheet.{Sheet}
use Rattle.spec.specs.Reduction.{stays, is_single, is_tied, verdict}
use Rattle.spec.specs.Reduction as Reduction
use Rattle.cells.specs.CellSets.{cell_grants}
use Rattle.cell_rows.specs.CellPlaces.{grant_of, marked, Shown, Shows, Part, cells_of}
use Rattle.numbers.specs.declared.numbers.CellNo.{CellNo}
use Rattle.verdict.specs.declared.judgement.Verdict.{Verdict}
use Rattle.verdict.specs.declared.judgement.Verdict.TheVariants.{Stays, Single, Tied}

-- n is the lowest cell from here to there that passes
pub record LowestIn (test : ℕ → Bool) (from to n : ℕ) : Type 0 where
  pub begun : from ≤ n
  pub within : n < to
  pub holds : So (test n)
  pub first : (m : ℕ) → from ≤ m → m < n → test m ≡ false

-- none does
pub record NoneIn (test : ℕ → Bool) (from to : ℕ) : Type 0 where
  pub fails : (m : ℕ) → from ≤ m → m < to → test m ≡ false

-- the lowest cell that passes, if there is one
abbrev pub FoundIn : (ℕ → Bool) → ℕ → ℕ → Option CellNo → Type 0
FoundIn test from to (Some n) = LowestIn test from to n.0
FoundIn test from to None = NoneIn test from to

-- the definition's verdict
abbrev pub verdict_of : Verdict → Reduction.Verdict
verdict_of Stays = stays
verdict_of Single = is_single
verdict_of (Tied n) = is_tied (grant_of n.0)

-- a grant that can be judged: its cell is one of left, all of whose cells are grants of the sheet that the rows show
pub record Judgeable (rows left : List ℕ) (users it : ℕ) : Type 0 where
  pub shows : Shows rows users
  pub part : Part left rows
  pub within : it < cells_of users
  pub set : So (marked left it)

-- the cell that a verdict names is another of these users'
abbrev pub NamesOther : ℕ → ℕ → Verdict → Type 0
NamesOther users it Stays = Unit {0}
NamesOther users it Single = Unit {0}
NamesOther users it (Tied n) = (n.0 < cells_of users) × (it ≢ n.0)

-- what is judged of it: the definition's verdict, in every sheet that the rows show
pub record GrantJudged (rows left : List ℕ) (users it : ℕ) (judged : Verdict) : Type 0 where
  pub named : NamesOther users it judged
  pub right : (sheet : Sheet) → Shown rows users sheet → verdict_of judged ≡ verdict sheet (cell_grants sheet left)
      (grant_of it)
