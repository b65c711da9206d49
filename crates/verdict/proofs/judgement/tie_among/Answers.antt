-- `verdict::judgement::tie_among`: the lowest is tried next, so the first that has a tie has the lowest.
use Rattle.std.proofs.Common.{arith, get_or, sym, ◌∙◌}
use Rattle.std.specs.Int.Bits.{bit_and}
use Rattle.bits.specs.Bit.{bit}
use Rattle.bits.specs.Laws.Bit.{bit_of_and}
use Rattle.bits.specs.Truth.{and_left}
use Rattle.bits.specs.Laws.Walk.{walk_next}
use Rattle.cell_rows.specs.Rows.{row_words, row_bits}
use Rattle.verdict.specs.NearCells.{tie_at}
use Rattle.verdict.specs.Laws.Misfit.{HoldersWord, holders_word, holder_within}
use Rattle.verdict.specs.Laws.Inside.{insides_untried}
use Rattle.verdict.specs.Laws.NearTie.{found_in, none_found}
use Rattle.verdict.specs.Laws.TieWalk.{lowest_in_column, none_in_column}
use Rattle.verdict.proofs.judgement.tie_among.Goals as goal

pub loop-q-init : goal.loop-q-init
unfolding row_words row_bits
loop-q-init c =
    let a = c.args in
    let held = c.holders.result in
    let word = get_or a.inside.now a.j 0 in
    let who : HoldersWord a.rows.now a.users c.permission_of.result.0 a.j held =
    holders_word c.requires.4 c.requires.0 (omega (arith, c.permission_of.ensures)) c.requires.2
    c.holders.ensures in
    record {
      walk = rw (c.into_iter-q-iterator.ensures.into_iter_gives, c.positions-q-items.ensures)
          (insides_untried a.rows.now a.left.now a.users a.it.0 c.requires.3 a.j held (bit_and held word)
          a.inside.now c.requires.0 (rw c.permission_of.ensures at who)
          c.requires.5 c.requires.6 (bit_of_and held word));
      within = λ q l p.
          holder_within who l (and_left (bit held q) (bit word q) (sym (bit_of_and held word q) ∙ p));
    }

pub tie_of_user-found-requires : goal.tie_of_user-found-requires
tie_of_user-found-requires c =
    let at = c.loop-q.invariant in
    let low = c.in-Some.ensures.steps.lowest in
    (c.requires.0, c.requires.1, at.within c.in-Some.q low.within (at.walk.kept c.in-Some.q low.holds), c.requires.4)

pub returns-then-is_some : goal.returns-then-is_some
returns-then-is_some c =
    let a = c.args in
    let at = c.loop-q.invariant in
    let low = c.in-Some.ensures.steps.lowest in
    found_in c.tie_of_user-found.result (cc) c.tie_of_user-found.ensures
    (λ n first. lowest_in_column (tie_at a.rows.now a.left.now a.users a.it.0) a.users a.j c.requires.2
    at.walk low (at.within c.in-Some.q low.within (at.walk.kept c.in-Some.q low.holds)) first)

pub loop-q-preserved : goal.loop-q-preserved
loop-q-preserved c =
    let taken = c.in-Some.ensures.steps in
    record {
      walk = walk_next c.loop-q.invariant.walk taken.lowest
          (λ inside. none_found c.tie_of_user-found.result (cc) c.tie_of_user-found.ensures) taken.dropped;
      within = c.loop-q.invariant.within;
    }

pub returns : goal.returns
returns c =
    let a = c.args in
    none_in_column (tie_at a.rows.now a.left.now a.users a.it.0) a.users a.j c.requires.2
    (rw c.in-None.ensures.steps.0 at c.loop-q.invariant.walk)
