-- `length::counts_length`: the line of names, both numbers, the comma between them, and the state.
use borrow.Author.Rules.{rules}
use native.Mathlib.Omega.{arith}
use Rattle.book_length.specs.Laws.CountsMeasured.{counts_measured}
use Rattle.book_length.proofs.length.counts_length.Statement.{statement}
use Rattle.book_length.proofs.length.counts_length.Tie as tie

add_roles : tie.Need-overflow_add-roles
add_roles c = omega (arith, c.decimal_length-roles.ensures.small)

add_bound : tie.Need-overflow_add-bound
add_bound c = omega (arith, c.decimal_length-bound.ensures.small)

add_result : tie.Need-overflow_add-result
add_result c = omega (arith, c.decimal_length-roles.ensures.small, c.decimal_length-bound.ensures.small)

add_result_2 : tie.Need-overflow_add-result-2
add_result_2 c =
    omega (
      arith,
      c.decimal_length-roles.ensures.small,
      c.decimal_length-bound.ensures.small,
      c.standing_length.ensures.small,
    )

returns : tie.Need-returns
returns c =
    let start = c.before.before.before.before.before in
    counts_measured start.args.counts _ _ _ c.decimal_length-roles.ensures
    c.decimal_length-bound.ensures
    c.standing_length.ensures

pub counts_length_spec : {M : Type 1} → statement M
counts_length_spec =
    tie.close (tie.spec (λ c κs. search rules) add_roles (λ c κs. search rules) add_bound add_result
    (λ c κs. search rules) add_result_2 returns)
