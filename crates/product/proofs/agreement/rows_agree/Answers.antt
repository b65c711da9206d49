-- `product::agreement::rows_agree`: the rows of the users below u agree.
use Rattle.std.proofs.Common.{ℕ, ◌≡◌, Bool, refl, sym, ◌∙◌, arith}
use Rattle.spec.specs.Vocabulary.{every_below}
use Rattle.bits.specs.Laws.Below.{missed_below_intro}
use Rattle.bits.specs.Laws.Step.{every_below_step}
use Rattle.bits.specs.Truth.{and_intro}
use Rattle.product.specs.RowAfter.{roles_in}
use Rattle.cell_rows.specs.Laws.RowWithin.{row_within}
use Rattle.product.specs.RowAgrees.{row_agrees}
use Rattle.product.proofs.agreement.rows_agree.Goals as goal

pub loop-u-init : goal.loop-u-init
unfolding every_below
loop-u-init c = refl

pub row_agrees-requires : goal.row_agrees-requires
row_agrees-requires c = (
  c.requires.0,
  row_within c.loop-u.u c.args.users _ c.loop-u-test.true c.requires.1,
  row_within c.loop-u.u c.args.users _ c.loop-u-test.true c.requires.2,
  c.requires.3,
)

pub returns-then-not-row_agrees : goal.returns-then-not-row_agrees
returns-then-not-row_agrees c =
    let a = c.args in
    sym
    (missed_below_intro a.users (row_agrees a.rows.now (roles_in a.has.now a.gives.now a.roles)) c.loop-u-test.true
    (sym c.row_agrees.ensures ∙ c.if-not-row_agrees.true))

pub loop-u-preserved : goal.loop-u-preserved
loop-u-preserved c =
    let a = c.args in
    let f : ℕ → Bool = row_agrees a.rows.now (roles_in a.has.now a.gives.now a.roles) in
    every_below_step c.loop-u.u f
    ∙ and_intro (f c.loop-u.u) (every_below c.loop-u.u f) (sym c.row_agrees.ensures ∙ c.if-not-row_agrees.false)
    c.loop-u.invariant

pub returns : goal.returns
returns c =
    let all : c.loop-u.u ≡ c.args.users = omega arith in
    sym (rw all at c.loop-u.invariant)
