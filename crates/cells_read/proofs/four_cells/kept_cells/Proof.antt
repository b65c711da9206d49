-- `four_cells::kept_cells`: each position is kept alone, so that their sum fits a word.
use borrow.Author.Rules.{rules}
use Prim.Native.Nat.{◌+◌, ◌^◌, ◌≤◌, ◌<◌}
use native.Mathlib.Omega.{arith}
use Rattle.bits.specs.Bit.{bit}
use Rattle.cell_text.specs.FourCells.{one_if_small}
use Rattle.cells_read.proofs.four_cells.kept_cells.Statement.{statement}
use Rattle.cells_read.proofs.four_cells.kept_cells.Tie as tie

first_small : (c : tie.After-kept_at-first) → c.kept_at-first.result ≤ 2 ^ 8
first_small c = rw c.kept_at-first.ensures (omega (arith, one_if_small (bit c.args.n 8)))

second_small : (c : tie.After-kept_at-second) → c.kept_at-second.result ≤ 2 ^ 24
second_small c = rw c.kept_at-second.ensures (omega (arith, one_if_small (bit c.args.n 24)))

third_small : (c : tie.After-kept_at-third) → c.kept_at-third.result ≤ 2 ^ 40
third_small c = rw c.kept_at-third.ensures (omega (arith, one_if_small (bit c.args.n 40)))

fourth_small : (c : tie.After-kept_at-fourth) → c.kept_at-fourth.result ≤ 2 ^ 56
fourth_small c =
    let start = c.before.before.before.before in
    rw c.kept_at-fourth.ensures (omega (arith, one_if_small (bit start.args.n 56)))

-- the sum of the four
sum_small : (c : tie.After-kept_at-fourth)
    → c.kept_at-first.result + c.kept_at-second.result + c.kept_at-third.result
    + c.kept_at-fourth.result < 2 ^ 64
sum_small c =
    omega (
      arith,
      first_small c.before.before.before,
      second_small c.before.before,
      third_small c.before,
      fourth_small c,
    )

returns : tie.Need-returns
returns c =
    rw (
      c.kept_at-first.ensures,
      c.kept_at-second.ensures,
      c.kept_at-third.ensures,
      c.kept_at-fourth.ensures,
    )

pub kept_cells_spec : {M : Type 1} → statement M
kept_cells_spec =
    tie.close (tie.spec (λ c κs. search rules) (λ c κs. search rules) (λ c κs. search rules) (λ c κs. search rules)
    (λ c. omega (arith, sum_small c)) (λ c. omega (arith, sum_small c)) (λ c. omega (arith, sum_small c)) returns)
