-- `table::permissions_among`: after i turns the row has the permissions of the first i cells.
use Rattle.std.proofs.Common.{◌≡◌, ℕ, ◌%◌, ◌<◌, Bool, eqb, refl, arith, ◌∙◌, length, get_or, take}
use Rattle.std.proofs.Math.Bool.{or_comm}
use Rattle.std.proofs.lemmas.List.{length-take-le, get_or-take}
use Rattle.bits.specs.Counting.{some_below}
use Rattle.bits.specs.Laws.Step.{some_below_step}
use Rattle.cell_rows.specs.Rows.{row_words, row_bits}
use Rattle.cells.specs.Laws.MadeCells.{no_cells}
use Rattle.table.proofs.table.permissions_among.Goals as goal

pub loop-at-init : goal.loop-at-init
unfolding some_below row_words
loop-at-init c = (refl, no_cells row_words)

pub loop-at-preserved : goal.loop-at-preserved
loop-at-preserved c =
    let put = c.mark.ensures in
    let i = c.loop-at.at-index in
    let is_its : ℕ → ℕ → Bool = λ p j. eqb p (get_or c.args.cells.now j 0 % row_bits) in
    let all : length (take c.args.count c.args.cells.now) ≡ c.args.count = length-take-le _ _ c.requires in
    let inside : i < c.args.count = omega arith in
    let found = rw get_or-take at c.permission_of.ensures in (
      put.size ∙ c.loop-at.invariant.0,
      λ p. rw (put.shows p, c.loop-at.invariant.1 p, found, some_below_step i (is_its p))
          (or_comm (some_below i (is_its p)) (is_its p i)),
    )

pub returns : goal.returns
returns c =
    let all : length (take c.args.count c.args.cells.now) ≡ c.args.count = length-take-le _ _ c.requires in
    let e : c.loop-at.at-index ≡ c.args.count = omega arith in
    rw e at c.loop-at.invariant.1
