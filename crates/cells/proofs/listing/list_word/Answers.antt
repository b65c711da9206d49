-- `cells::listing::list_word`: the lowest position that is left is put in next. The loop ends with the word, or with an
-- array that is full before that: then the set has more cells than a sheet has grants, and nothing is said of it.
use Rattle.std.proofs.Common.{arith}
use Rattle.spec.specs.Limits.{user_limit, grant_limit}
use Rattle.cell_rows.specs.Rows.{row_words}
use Rattle.cells.specs.KernelList.{next_listed, word_listed, word_cut}
use Rattle.cells.proofs.listing.list_word.Goals as goal

pub returns-then-size-ge-GRANT_LIMIT : goal.returns-then-size-ge-GRANT_LIMIT
unfolding grant_limit
returns-then-size-ge-GRANT_LIMIT c left e listed =
    let taken = c.in-Some.ensures.steps in
    word_cut (c.loop-p.invariant left e listed) (omega arith) (omega (arith, taken.some))

pub overflow_mul-cells : goal.overflow_mul-cells
unfolding user_limit row_words
overflow_mul-cells c = omega arith

pub overflow_add-cells : goal.overflow_add-cells
unfolding user_limit row_words
overflow_add-cells c = omega (arith, c.in-Some.ensures.steps.lowest.within)

pub overflow_cast-cells : goal.overflow_cast-cells
unfolding user_limit row_words
overflow_cast-cells c = omega (arith, c.in-Some.ensures.steps.lowest.within)

pub loop-p-preserved : goal.loop-p-preserved
unfolding grant_limit
loop-p-preserved c left e listed =
    let taken = c.in-Some.ensures.steps in
    next_listed (c.loop-p.invariant left e listed) taken.lowest (omega arith) taken.dropped

pub returns : goal.returns
returns c left e listed = word_listed (c.loop-p.invariant left e listed) c.in-None.ensures.steps.0
