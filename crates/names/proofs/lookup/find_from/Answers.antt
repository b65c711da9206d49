-- `lookup::find_from`: where no two names are equal, the number found in the later part is the name's; a name that
-- does not stand there has the number found in the earlier part.
use Rattle.std.proofs.Common.{arith, ℕ, ◌≤◌, ◌<◌, length, sym, ap}
use Rattle.names.specs.NamesAt.{found}
use Rattle.names.specs.Laws.FoundBetween.{stands_number, found_early}
use Rattle.names.proofs.lookup.find_from.Goals as goal
use Rattle.names.proofs.lookup.find_from.Goals.{then-first-count, else-first-count}

pub returns-in-Some : goal.returns-in-Some
returns-in-Some c =
    sym (ap found (stands_number _ _ _ _ c.requires.1 c.args.first _ c.in-Some.i (omega arith)
    (rw c.in-Some.is at c.find_between-late.ensures)))

-- the earlier part ends at `first`, or at the last name
pub returns : goal.returns
returns c =
    let start = c.args in
    let end = c.if-first-count.end in
    let within : (end ≤ length start.places.now) × ((i : ℕ) → i < start.first → i < length start.places.now → i < end) =
    elim c.if-first-count.branch [
      | then-first-count w ↦ (omega arith, λ i h k. omega arith)
      | else-first-count w ↦ (omega arith, λ i h k. omega arith)
    ] in
    found_early _ _ _ _ c.requires.1 start.first end within.0 within.1
    (rw c.in_default.is at c.find_between-late.ensures) c.find_between.result c.find_between.ensures
