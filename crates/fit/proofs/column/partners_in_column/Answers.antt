-- `fit::column::partners_in_column`: the words of the column are all words in which a grant can fit the grant.
use Rattle.std.proofs.Common.{arith, ◌≡◌, ℕ, min, ◌*◌, ◌%◌, ◌<◌, ◌≤◌, refl, mod-lt, ⊎_elim}
use Rattle.spec.specs.Limits.{user_limit}
use Rattle.bits.specs.Counting.{sum_below}
use Rattle.bits.specs.Bit.{word_bits}
use Rattle.cell_rows.specs.Rows.{row_words, row_bits}
use Rattle.bits.specs.Laws.Below.{below_or_from}
use Rattle.cell_rows.specs.CellPlaces.{CountedBelow}
use Rattle.cell_rows.specs.Laws.Width.{row_bits_pos}
use Rattle.fit.specs.Columns.{held_in}
use Rattle.fit.specs.Laws.Column.{
  near_sum_le,
  column_next_word,
  column_counts_all,
  counted_on,
  cut_at,
  not_cut,
}
use Rattle.fit.proofs.column.partners_in_column.Goals as goal

pub loop-j-init : goal.loop-j-init
unfolding sum_below
loop-j-init c = record { below = λ l. refl; not_more = omega arith }

pub partners_among-n-requires : goal.partners_among-n-requires
unfolding user_limit row_words row_bits
partners_among-n-requires c =
    let a = c.args in
    omega (
      arith,
      c.loop-j.invariant.not_more,
      near_sum_le a.rows.now a.left.now a.it.0 (c.loop-j.j * word_bits) (held_in a.rows.now (a.it.0 % row_bits)) (λ i. i),
    )

pub loop-j-preserved : goal.loop-j-preserved
unfolding user_limit row_words row_bits
loop-j-preserved c =
    let a = c.args in
    rw (column_next_word a.rows.now a.left.now a.it.0 a.columns.now c.requires.1 (a.it.0 % row_bits) c.loop-j.j
    (mod-lt a.it.0 row_bits_pos) (omega arith))
    (counted_on _ c.loop-j.invariant c.partners_among-n.ensures)

-- the count, cut at most
cut : {most whole n : ℕ} → CountedBelow most whole n → min most n ≡ min most whole
cut {most} {n = n} counted =
    ⊎_elim (λ (k : most < n). omega (arith, cut_at counted k)) (λ (k : n ≤ most). omega (arith, not_cut counted k))
    (below_or_from most n)

pub returns : goal.returns
unfolding user_limit
returns c =
    let end : c.loop-j.j * word_bits ≡ user_limit = omega arith in
    rw (← column_counts_all c.args.rows.now c.args.left.now c.args.it.0)
    (omega (arith, cut (rw end at c.loop-j.invariant)))
