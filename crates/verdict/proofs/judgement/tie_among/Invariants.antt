-- `verdict::judgement::tie_among`: the positions that are left are the users still to be tried, and the others have no
-- tie. All positions that the word had are of users.
use Rattle.std.proofs.Common.{ℕ, ◌+◌, ◌*◌, ◌<◌}
use Rattle.std.proofs.Math.Bool.{So}
use Rattle.bits.specs.Bit.{bit, word_bits}
use Rattle.bits.specs.Laws.Walk.{Walk}
use Rattle.verdict.specs.NearCells.{tie_at}
use Rattle.verdict.specs.Laws.TieWalk.{NoneAt}
use Rattle.verdict.proofs.judgement.tie_among.Given as goal

abbrev pub invariant-loop-q : goal.invariant-loop-q
invariant-loop-q l = record {
  walk : Walk l.some (NoneAt (tie_at l.rows l.left l.users l.it.0) l.users l.j) l.q-iterator.left;
  within : (q : ℕ) → q < word_bits → So (bit l.some q) → l.j * word_bits + q < l.users;
}
