-- `verdict::inside::insides`: the words of the first j words of users are made.
use Rattle.std.proofs.Common.{◌≡◌, length}
use Rattle.cells.specs.Laws.MadeCells.{MadeWords}
use Rattle.fit.specs.Columns.{column_words}
use Rattle.verdict.specs.Insides.{may_tie}
use Rattle.verdict.proofs.inside.insides.Given as goal

abbrev pub invariant-loop-j : goal.invariant-loop-j
invariant-loop-j l = record {
  sized : length l.words ≡ column_words;
  made : MadeWords (may_tie l.rows l.left l.v.0) l.j l.words;
}
