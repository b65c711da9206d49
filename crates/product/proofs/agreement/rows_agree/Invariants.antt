-- `product::agreement::rows_agree`: the rows of the users below u agree.
use Rattle.std.proofs.Math.Bool.{So}
use Rattle.spec.specs.Vocabulary.{every_below}
use Rattle.product.specs.RowAfter.{roles_in}
use Rattle.product.specs.RowAgrees.{row_agrees}
use Rattle.product.proofs.agreement.rows_agree.Given as goal

abbrev pub invariant-loop-u : goal.invariant-loop-u
invariant-loop-u l = So (every_below l.u (row_agrees l.rows (roles_in l.has l.gives l.roles)))
