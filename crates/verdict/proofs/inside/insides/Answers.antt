-- `verdict::inside::insides`: each word is made after those before it.
use Rattle.std.proofs.Common.{arith, ◌≡◌, refl, length-set}
use Rattle.spec.specs.Limits.{user_limit}
use Rattle.cells.specs.Laws.MadeCells.{none_made, one_made, all_made}
use Rattle.fit.specs.Columns.{column_words}
use Rattle.fit.specs.Laws.ColumnPlaces.{whole_columns}
use Rattle.verdict.proofs.inside.insides.Goals as goal

pub loop-j-init : goal.loop-j-init
unfolding user_limit
loop-j-init c = record { sized = refl; made = none_made _ column_words }

pub loop-j-preserved : goal.loop-j-preserved
unfolding user_limit
loop-j-preserved c = record {
  sized = simp length-set c.loop-j.invariant.sized;
  made = one_made _ c.loop-j.j c.loop-j.words _ c.loop-j.invariant.made (omega arith) c.inside_among.ensures;
}

pub returns : goal.returns
unfolding user_limit
returns c =
    let end : c.loop-j.j ≡ column_words = omega arith in
    rw (end, whole_columns) at (all_made _ c.loop-j.j c.loop-j.words c.loop-j.invariant.made)
