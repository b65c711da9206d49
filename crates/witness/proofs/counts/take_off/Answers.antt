-- `counts::take_off`: the words of the columns are passed one after the other. The counts of the users still to come
-- are as they were, and a user whom no column reaches has no grant that fits.
use Rattle.std.proofs.Common.{rules, ◌≡◌, ◌*◌, ◌∙◌, arith, sym, length}
use Rattle.spec.specs.Limits.{user_limit}
use Rattle.bits.specs.Bit.{word_bits}
use Rattle.cell_rows.specs.Rows.{row_words}
use Rattle.witness.specs.Laws.CountChange.{not_changed}
use Rattle.witness.specs.Laws.FitCounts.{column_to_come, no_grants_changed}
use Rattle.witness.specs.Laws.FitCounts.{next_users_changed}
use Rattle.witness.proofs.counts.take_off.Goals as goal

pub returns-then-not-has_any : goal.returns-then-not-has_any
returns-then-not-has_any c =
    let a = c.args in
    no_grants_changed a.rows.now a.left.now a.these.user.0 a.these.words user_limit a.counts.now
    (sym c.has_any.ensures ∙ c.if-not-has_any.true)

pub union_of_row-some-requires : goal.union_of_row-some-requires
unfolding user_limit row_words
union_of_row-some-requires c =
    let sized : length c.args.these.words ≡ row_words = search rules in
    (omega arith, omega arith)

pub take_off_for_users-requires : goal.take_off_for_users-requires
unfolding user_limit
take_off_for_users-requires c =
    let a = c.args in
    let at = c.loop-j in (
      c.requires.0,
      omega arith,
      at.invariant.sized ∙ c.requires.2,
      λ n p.
          let some = c.union_of_row-some.result in
          let here = column_to_come a.left.now at.j some n (omega arith) p in
          rw (not_changed at.invariant n here.0) (c.requires.3 n here.1),
    )

pub loop-j-preserved : goal.loop-j-preserved
unfolding user_limit
loop-j-preserved c =
    let a = c.args in
    let at = c.loop-j in
    let found = c.union_of_row-some in
    next_users_changed a.rows.now a.left.now a.these.user.0 a.these.words at.j found.result a.columns.now _ at.counts _
    c.requires.1 (omega arith) found.ensures at.invariant c.take_off_for_users.ensures

pub returns : goal.returns
unfolding user_limit
returns c =
    let at = c.loop-j in
    let end : at.j * word_bits ≡ user_limit = omega arith in
    rw end at at.invariant
