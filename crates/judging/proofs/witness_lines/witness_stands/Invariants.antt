-- `witness_lines::witness_stands`: the lines below j are held and fit none before them, and they are noted.
use Rattle.std.proofs.Common.{◌≡◌, length}
use Rattle.std.proofs.Math.Bool.{So}
use Rattle.spec.specs.Vocabulary.{every_below}
use Rattle.cell_rows.specs.Rows.{row_words, row_bits}
use Rattle.judging.specs.WitnessWords.{line_stands}
use Rattle.judging.specs.NotedLines.{Noted}
use Rattle.judging.proofs.witness_lines.witness_stands.Given as goal

abbrev pub invariant-loop-j : goal.invariant-loop-j
invariant-loop-j l = record {
  stood : So (every_below l.j (line_stands l.rows l.fn.witness));
  noted : Noted l.fn.witness l.j l.taken l.owners;
  sizes : (length l.taken ≡ row_words) × (length l.owners ≡ row_bits);
}
