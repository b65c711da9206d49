-- `four_cells::kept_at`: the number and one position have that position alone.
use borrow.Author.Rules.{rules}
use Rattle.cells_read.specs.FourRead.{kept_digit}
use Rattle.cells_read.proofs.four_cells.kept_at.Statement.{statement}
use Rattle.cells_read.proofs.four_cells.kept_at.Tie as tie

returns : tie.Need-returns
returns c = kept_digit c.args.n c.args.p c.ranges.n.fits c.requires

pub kept_at_spec : {M : Type 1} → statement M
kept_at_spec =
    tie.close (tie.spec (λ c. search rules) returns)
