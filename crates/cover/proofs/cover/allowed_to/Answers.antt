-- `cover::allowed_to`: of the classes passed, those are in the set whose members ask only what the user holds.
use Rattle.std.proofs.Common.{◌≡◌, refl, ◌∙◌, arith}
use Rattle.cell_rows.specs.Rows.{row_words, row_bits}
use Rattle.cover.specs.CoverAllowed.{none_allowed, one_allowed, allowed_all}
use Rattle.cover.proofs.cover.allowed_to.Goals as goal

pub loop-c-init : goal.loop-c-init
unfolding row_words
loop-c-init c = (refl, none_allowed _ _ _ row_words refl)

pub put_if-requires : goal.put_if-requires
put_if-requires c = (omega arith, c.loop-c.invariant.0)

pub loop-c-preserved : goal.loop-c-preserved
loop-c-preserved c =
    let at = c.loop-c in (
      c.put_if.ensures.size ∙ at.invariant.0,
      one_allowed _ _ _ at.allowed _ at.c at.invariant.1 (rw c.holds_asked-yes.ensures at c.put_if.ensures),
    )

pub returns : goal.returns
unfolding row_bits row_words
returns c =
    let e : c.loop-c.c ≡ c.args.most = omega arith in
    rw e at (allowed_all c.loop-c.invariant.1 (omega arith))
