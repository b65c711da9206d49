-- `row::has_any`: what `any` finds among the words is what some number below their count passes.
use Rattle.std.proofs.Common.{◌≡◌, not, eqb, sym, ap, ◌∙◌, arith, take}
use Rattle.std.proofs.Math.Seq.{take-length}
use Rattle.std.proofs.lemmas.Grind.{common_steps}
use Rattle.std.specs.List.{list_any}
use Rattle.cell_rows.specs.Rows.{row_words}
use Rattle.witness.specs.Laws.Row.{any_below}
use Rattle.witness.proofs.row.has_any.Goals as goal

pub returns : goal.returns
unfolding row_words
returns c =
    let row = c.args.row.now in
    let found : c.any.result ≡ list_any (λ w. not (eqb w 0)) row = grind (arith, common_steps) in
    let whole : take row_words row ≡ row = rw c.told-row at (take-length row) in
    found ∙ sym (ap (list_any (λ w. not (eqb w 0))) whole)
    ∙ any_below (λ w. not (eqb w 0)) row row_words (omega arith)
