-- `witness::choose`: from an empty set none is taken. Else each turn takes the grant with the fewest partners among those
-- left, as the definition does. The turns end when none is left, or with as many as a sheet can have grants.
use Rattle.std.proofs.Common.{◌≡◌, ◌-◌, suc, ◌+◌, refl, arith}
use Rattle.std.proofs.Math.Nat.{sub-zero}
use Rattle.spec.specs.Limits.{grant_limit}
use Rattle.cell_rows.specs.Rows.{row_words, row_bits}
use Rattle.cells.specs.CellSets.{cell_grants}
use Rattle.cell_rows.specs.CellPlaces.{cells_of}
use Rattle.witness.specs.WitnessCells.{left_over_part}
use Rattle.witness.specs.WitnessChoice.{no_choice}
use Rattle.witness.specs.WitnessWalk.{walk_starts, walk_passes, walk_ends}
use Rattle.witness.specs.Laws.WitnessTaken.{none_taken}
use Rattle.witness.specs.WitnessGreedy.{greedy_starts, greedy_goes_on, greedy_ends}
use Rattle.witness.proofs.witness.choose.Goals as goal

-- no cell of an empty set is passed
pub returns-then-first-users : goal.returns-then-first-users
unfolding row_bits row_words
returns-then-first-users c sheet shown part =
    let a = c.args in
    let next = c.next_cell-first in
    let passed = walk_passes a.rows.now a.kernel.now a.users no_choice 0 (walk_starts _ _ _) next.result.0
    next.ensures.not_before next.ensures.skipped in
    let none = (walk_ends _ _ _ no_choice next.result.0 passed c.if-first-users.true).is_fewest sheet shown part in
    greedy_ends sheet _ _ _ _ _ grant_limit (greedy_starts sheet _ _ _ part)
    (none_taken sheet grant_limit (cell_grants sheet a.kernel.now) none)

pub loop-init : goal.loop-init
loop-init c = (
  c.requires.2,
  c.first_counts-counts.ensures.0,
  λ sheet shown part. rw (sub-zero grant_limit) (greedy_starts sheet _ _ _ part),
)

pub returns-in_default : goal.returns-in_default
returns-in_default c sheet shown part =
    let at = c.loop in
    let greedy = at.invariant.2 sheet shown part in
    let none = (c.in_default.ensures _ at.invariant.1).is_fewest sheet shown greedy.left_part in
    greedy_ends sheet _ _ _ at.left at.cells _ greedy
    (none_taken sheet (grant_limit - at.counter) (cell_grants sheet at.left) none)

pub put_cell-requires : goal.put_cell-requires
unfolding row_bits row_words
put_cell-requires c =
    let within = (c.in-Some.ensures _ c.loop.invariant.1).standing.within in
    (omega (arith, within), c.loop.invariant.0)

pub dropped-rest-requires : goal.dropped-rest-requires
unfolding row_bits row_words
dropped-rest-requires c =
    let within = (c.in-Some.ensures _ c.loop.invariant.1).standing.within in
    (c.requires.0, omega (arith, within))

pub recount-requires : goal.recount-requires
recount-requires c =
    let a = c.args in
    let rest = c.dropped-rest in (
      c.requires.0,
      c.requires.1,
      c.loop.invariant.1,
      (left_over_part a.rows.now c.loop.left _ (cells_of a.users) rest.result rest.ensures).held,
    )

pub loop-preserved : goal.loop-preserved
unfolding grant_limit
loop-preserved c =
    let at = c.loop in
    let best = c.in-Some.ensures _ at.invariant.1 in
    let more : grant_limit - at.counter ≡ suc (grant_limit - (at.counter + 1)) = omega arith in (
      c.put_cell.ensures.0,
      c.recount.ensures.0,
      λ sheet shown part.
          let greedy = rw more at (at.invariant.2 sheet shown part) in
          greedy_goes_on shown _ _ at.left at.cells _ greedy c.in-Some.best.cell.0 best.standing.is_set
          (best.is_fewest sheet shown greedy.left_part) _ c.dropped-rest.ensures _
          c.put_cell.ensures.1,
    )

pub returns : goal.returns
unfolding grant_limit
returns c sheet shown part =
    let at = c.loop in
    let none : grant_limit - at.counter ≡ 0 = omega arith in
    greedy_ends sheet _ _ _ at.left at.cells 0 (rw none at (at.invariant.2 sheet shown part)) refl
