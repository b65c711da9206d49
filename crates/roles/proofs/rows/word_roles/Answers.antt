-- `roles::word_roles`: the positions left are the grants of the word still to come. The lowest is the next grant: its
-- role goes to the row of its user, and its permission to the row of the role.
use Rattle.std.proofs.Common.{◌+◌, ◌*◌, ◌<◌}
use Rattle.bits.specs.Bit.{word_bits}
use Rattle.cell_rows.specs.Rows.{row_bits}
use Rattle.cell_rows.specs.CellPlaces.{cell_limit}
use Rattle.roles.specs.Laws.RoleWalk.{word_starts, word_next, word_ends, cell_below, few_here, role_here}
use Rattle.roles.proofs.rows.word_roles.Goals as goal
use Rattle.roles.proofs.rows.word_roles.Goals.{After-role_for-role, In-Some}

pub loop-p-init : goal.loop-p-init
loop-p-init c =
    rw (c.into_iter-p-iterator.ensures.into_iter_gives, c.positions-p-items.ensures)
    (word_starts c.requires.roles_to)

-- the next grant is a cell, and its role is a column of a row
below : (c : In-Some) → c.args.i * word_bits + c.in-Some.p < cell_limit
below c =
    let pre = c.requires.i_lt_cell_words in
    cell_below c.loop-p.invariant c.in-Some.ensures.steps.lowest pre.0 pre.1

column : (c : After-role_for-role) → c.role_for-role.result.0 < row_bits
column c =
    let pre = c.requires.i_lt_cell_words in
    role_here c.loop-p.invariant c.in-Some.ensures.steps.lowest pre.0 pre.1 c.role_for-role.ensures.0

pub role_for-role-requires : goal.role_for-role-requires
role_for-role-requires c =
    let pre = c.requires.i_lt_cell_words in (
      few_here c.loop-p.invariant c.in-Some.ensures.steps.lowest pre.0 pre.1,
      pre.1.in_table _ (below (goal.at.role_for-role-requires c).In-Some),
    )

pub put_in_role-requires : goal.put_in_role-requires
put_in_role-requires c =
    let so_far = c.loop-p.invariant.so_far in (
      so_far.has_wide,
      so_far.gives_wide,
      below (goal.at.put_in_role-requires c).In-Some,
      column (goal.at.put_in_role-requires c).After-role_for-role,
    )

pub counted-known-requires : goal.counted-known-requires
counted-known-requires c = column (goal.at.counted-known-requires c).After-role_for-role

pub loop-p-preserved : goal.loop-p-preserved
loop-p-preserved c =
    let pre = c.requires.i_lt_cell_words in
    let taken = c.in-Some.ensures.steps in
    rw (c.role_for-role.ensures.1, c.counted-known.ensures)
    (word_next c.loop-p.invariant taken.lowest pre.0 pre.1 c.role_for-role.ensures.0 taken.dropped
    c.put_in_role.ensures.0 c.put_in_role.ensures.1)

pub returns : goal.returns
returns c = word_ends c.loop-p.invariant c.in-None.ensures.steps.0
