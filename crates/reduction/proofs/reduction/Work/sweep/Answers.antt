-- `reduction::reduction::Work::sweep`: the lowest cell is visited next, and dropped.
use Rattle.std.proofs.Common.{arith, ◌≡◌, ℕ, ◌+◌, ◌*◌, ◌/◌, ◌<◌, sym, ap, ◌∙◌}
use Rattle.std.proofs.Math.Arith.{digits_lt, digits_div}
use Rattle.bits.specs.Bit.{word_bits}
use Rattle.cell_rows.specs.Rows.{row_words, row_bits}
use Rattle.cell_rows.specs.CellPlaces.{cells_of}
use Rattle.cell_rows.specs.Laws.Width.{user_of_cell}
use Rattle.verdict.specs.Laws.Inside.{insides_found, insides_kept}
use Rattle.verdict.specs.Laws.ReductionWork.{visited_ready}
use Rattle.reduction.specs.Laws.CarryOut.{carriable, visited}
use Rattle.reduction.specs.Laws.ReductionSweep.{sweeping_next, sweeping_done, user_at_first, user_next_word, user_done, swept_none, swept_no_cells}
use Rattle.reduction.proofs.reduction.Work.sweep.Goals as goal
use Rattle.reduction.proofs.reduction.Work.sweep.Goals.{then-has_grants+else-loop-d-test, else-has_grants}

-- the cell at position q of word d of user u's row is one of the users' cells, and of that user's
below : (u d q : ℕ) {users : ℕ} → u < users → d < row_words → q < word_bits
    → (u * row_words + d) * word_bits + q < cells_of users
unfolding row_words
below u d q few within inside = digits_lt (omega arith) inside

of_user : (u d q : ℕ) → d < row_words → q < word_bits → ((u * row_words + d) * word_bits + q) / row_bits ≡ u
unfolding row_words
of_user u d q within inside =
    user_of_cell ((u * row_words + d) * word_bits + q)
    ∙ ap (λ i. i / row_words) (digits_div (u * row_words + d) inside)
    ∙ digits_div u within

pub loop-u-init : goal.loop-u-init
unfolding row_words
loop-u-init c = swept_none c.requires.0

pub insides-inside-requires : goal.insides-inside-requires
insides-inside-requires c =
    (omega (arith, c.requires.0.shows.few_users), (visited_ready c.requires.0 c.loop-u.invariant).part, c.requires.1)

pub loop-d-init : goal.loop-d-init
loop-d-init c =
    let ready = visited_ready c.requires.0 c.loop-u.invariant in
    user_at_first ready (insides_found c.loop-u.u c.insides-inside.result ready.part
    (omega (arith, ready.shows.few_users)) c.insides-inside.ensures)

pub judge-verdict-requires : goal.judge-verdict-requires
unfolding row_words
judge-verdict-requires c =
    let at = c.loop-q.invariant in
    let low = c.in-Some.ensures.steps.lowest in (
      record {
        shows = at.sweeping.ready.shows;
        part = at.sweeping.ready.part;
        within = below c.loop-u.u c.loop-d.d c.in-Some.q (omega arith) (omega arith) low.within;
        set = at.sweeping.set c.in-Some.q low.within low.holds;
      },
      c.requires.1,
      rw (of_user c.loop-u.u c.loop-d.d c.in-Some.q (omega arith) low.within) at.insides,
    )

pub carry_out-requires : goal.carry_out-requires
unfolding row_words
carry_out-requires c =
    let at = c.loop-q.invariant.sweeping in
    let low = c.in-Some.ensures.steps.lowest in
    carriable at.ready (below c.loop-u.u c.loop-d.d c.in-Some.q (omega arith) (omega arith) low.within)
    (at.set c.in-Some.q low.within low.holds) c.judge-verdict.result c.judge-verdict.ensures

pub loop-q-preserved : goal.loop-q-preserved
unfolding row_words
loop-q-preserved c =
    let at = c.loop-q.invariant in
    let low = c.in-Some.ensures.steps.lowest in
    let seen = visited at.sweeping.ready
    (below c.loop-u.u c.loop-d.d c.in-Some.q (omega arith) (omega arith) low.within)
    (at.sweeping.set c.in-Some.q low.within low.holds) c.judge-verdict.result c.judge-verdict.ensures
    c.carry_out.ensures in
    record {
      sweeping = sweeping_next at.sweeping low seen c.in-Some.ensures.steps.dropped;
      insides = insides_kept (of_user c.loop-u.u c.loop-d.d c.in-Some.q (omega arith) low.within) at.insides seen;
    }

pub loop-d-preserved : goal.loop-d-preserved
unfolding row_words
loop-d-preserved c =
    user_next_word c.loop-d.invariant (sweeping_done (rw c.in-None.ensures.steps.0 at c.loop-q.invariant.sweeping))
    c.loop-q.invariant.insides

pub loop-u-preserved : goal.loop-u-preserved
unfolding row_words
loop-u-preserved c =
    let at = c.loop-u in
    elim c.if-has_grants.branch [
      | then-has_grants+else-loop-d-test w ↦ rw (w.self-is)
          (user_done (omega arith) (omega arith) w.loop-d.invariant at.invariant)
      | else-has_grants w ↦ rw (w.self-is)
          (swept_no_cells at.u (visited_ready c.requires.0 at.invariant) at.invariant
          (sym c.has_grants.ensures ∙ w.if-has_grants.false))
    ]

pub returns : goal.returns
returns c =
    let end : c.loop-u.u ≡ c.args.users = omega arith in
    rw end at c.loop-u.invariant
