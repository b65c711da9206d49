-- `judging::an_owner_holds`: the owner of the lowest permission that is left is asked next, and the lowest dropped.
use Rattle.std.proofs.Common.{arith, sym, ◌∙◌}
use Rattle.cell_rows.specs.Rows.{row_words, row_bits}
use Rattle.judging.specs.NotedLines.{no_owner, owner_first, owner_found, owners_dropped}
use Rattle.judging.proofs.witness_lines.an_owner_holds.Goals as goal

pub overflow_add-owner : goal.overflow_add-owner
unfolding row_bits row_words
overflow_add-owner c = omega (arith, c.requires.0, c.in-Some.ensures.steps.lowest.within)

pub offset_bounds-owners-first : goal.offset_bounds-owners-first
unfolding row_bits row_words
offset_bounds-owners-first c = omega (arith, c.requires.0, c.in-Some.ensures.steps.lowest.within)

pub bounds-owners-first : goal.bounds-owners-first
unfolding row_bits row_words
bounds-owners-first c = omega (arith, c.requires.0, c.in-Some.ensures.steps.lowest.within)

pub cell_at-requires : goal.cell_at-requires
cell_at-requires c =
    let lowest = c.in-Some.ensures.steps.lowest in (
      c.requires.1,
      c.loop-p.invariant.0.each c.in-Some.p lowest.within lowest.holds,
    )

pub returns-then-cell_at : goal.returns-then-cell_at
returns-then-cell_at c =
    let a = c.args in
    sym
    (sym c.loop-p.invariant.1
    ∙ owner_found a.rows.now a.owners.now a.first.0 a.permission.0 c.loop-p.p-iterator.left
    c.in-Some.ensures.steps.lowest (sym c.cell_at.ensures ∙ c.if-cell_at.true))

pub loop-p-preserved : goal.loop-p-preserved
loop-p-preserved c =
    let a = c.args in
    let taken = c.in-Some.ensures.steps in
    let misses = sym c.cell_at.ensures ∙ c.if-cell_at.false in (
      owners_dropped taken.lowest taken.dropped c.loop-p.invariant.0,
      sym
          (rw misses at (owner_first a.rows.now a.owners.now a.first.0 a.permission.0 taken.lowest taken.dropped))
          ∙ c.loop-p.invariant.1,
    )

pub returns : goal.returns
returns c =
    let a = c.args in
    sym (no_owner a.rows.now a.owners.now a.first.0 a.permission.0)
    ∙ rw c.in-None.ensures.steps.0 at c.loop-p.invariant.1
