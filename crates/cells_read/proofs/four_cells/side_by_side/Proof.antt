-- `four_cells::side_by_side`: what becomes of each of the numbers that there can be is computed.
use borrow.Author.Rules.{rules}
use Prim.Native.Nat.{◌^◌, ◌<◌}
use native.Mathlib.Omega.{arith}
use Rattle.bits.specs.Bit.{bit}
use Rattle.cells_read.specs.FourRead.{set_small, sets_together}
use Rattle.cells_read.proofs.four_cells.side_by_side.Statement.{statement}
use Rattle.cells_read.proofs.four_cells.side_by_side.Tie as tie

first_small : (c : tie.Start) → c.args.first < 2 ^ 57
first_small c =
    let n = c.args.first in
    omega (arith, c.requires.0, set_small (bit n 8) (bit n 24) (bit n 40) (bit n 56))

second_small : (c : tie.Start) → c.args.second < 2 ^ 57
second_small c =
    let n = c.args.second in
    omega (arith, c.requires.1, set_small (bit n 8) (bit n 24) (bit n 40) (bit n 56))

returns : tie.Need-returns
returns c = sets_together c.args.first c.args.second c.requires.0 c.requires.1

pub side_by_side_spec : {M : Type 1} → statement M
side_by_side_spec =
    tie.close (tie.spec (λ c. omega (arith, second_small c)) (λ c. omega (arith, first_small c, second_small c))
    (λ c. omega (arith, first_small c, second_small c)) (λ c. search rules) returns)
