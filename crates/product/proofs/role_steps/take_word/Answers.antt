-- `product::role_steps::take_word`: b roles of the word are taken, and the positions of rest are those not yet looked
-- at. The next role is that after all roles taken, as the step asks.
use Rattle.std.proofs.Common.{◌≡◌, ◌+◌, ◌*◌, ◌<◌, arith}
use Rattle.bits.specs.Bit.{word_bits}
use Rattle.cell_rows.specs.Rows.{row_words}
use Rattle.cell_rows.specs.RowWords.{before_word}
use Rattle.cell_rows.specs.Laws.RowWithin.{row_within}
use Rattle.product.specs.Laws.RoleSteps.{rest_start, rest_more, rest_lowest}
use Rattle.product.proofs.role_steps.take_word.Goals as goal

pub loop-b-init : goal.loop-b-init
loop-b-init c =
    let none : before_word c.args.r c.args.j + 0 ≡ before_word c.args.r c.args.j = omega arith in
    (c.requires.row_len.0, rest_start _, rw none c.requires.row_after)

pub take_role-requires : goal.take_role-requires
unfolding row_words
take_role-requires c =
    let at = c.loop-b in
    let a = c.args in
    let inside : a.j * word_bits + at.b < a.r = omega (arith, c.loop-b-test.true, c.cells_in_word-count.ensures) in
    let placed : at.b < word_bits = omega (arith, c.loop-b-test.true, c.cells_in_word-count.ensures) in
    let next : before_word a.r a.j + at.b ≡ a.j * word_bits + at.b = omega arith in
    record {
      row_len = (
        at.invariant.0,
        row_within (a.j * word_bits + at.b) a.r _ inside c.requires.row_len.3,
        rest_lowest a.has.now a.u.0 a.j at.b at.rest at.invariant.1 placed,
      );
      row_after = rw next at at.invariant.2;
    }

pub loop-b-preserved : goal.loop-b-preserved
loop-b-preserved c =
    let at = c.loop-b in
    let a = c.args in
    let inside : a.j * word_bits + at.b < a.r = omega (arith, c.loop-b-test.true, c.cells_in_word-count.ensures) in
    let next : before_word a.r a.j + (at.b + 1) ≡ a.j * word_bits + at.b + 1 = omega arith in (
      c.take_role.ensures.0,
      rest_more at.invariant.1,
      rw next c.take_role.ensures.1,
    )

pub returns : goal.returns
returns c =
    let a = c.args in
    let all : before_word a.r a.j + c.loop-b.b ≡ before_word a.r (a.j + 1) =
    omega (arith, c.loop-b-test.false, c.cells_in_word-count.ensures) in
    (c.loop-b.invariant.0, rw all at c.loop-b.invariant.2)
