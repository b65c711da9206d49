-- `four_cells::set_of`: the number must be that of no cells and of the positions that it has of four cells.
use Rattle.std.proofs.Common.{ℕ, ◌+◌, sym, ap, ◌∙◌}
use Rattle.bits.specs.Bit.{bit}
use Rattle.cells_read.specs.FourRead.{no_cells, set_read, set_digits, set_of_cells}
use Rattle.cells_read.proofs.four_cells.set_of.Goals as goal

pub returns-then-n-set : goal.returns-then-n-set
returns-then-n-set c x y z u e =
    let kept = c.kept_cells-set.ensures in
    c.if-n-set.true (e ∙ ap (λ (m : ℕ). no_cells + m) (sym (kept ∙ ap set_read e ∙ set_of_cells x y z u)))

pub returns : goal.returns
returns c =
    let n = c.args.n in
    let kept = c.kept_cells-set.ensures in (
      c.if-n-set.false,
      kept ∙ sym (ap set_read kept ∙ set_digits (bit n 8) (bit n 24) (bit n 40) (bit n 56)),
    )
