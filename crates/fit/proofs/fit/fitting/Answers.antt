-- `fit::fit::fitting`: where the user of the word does not hold the grant's permission, none of its cells fits.
use Rattle.std.proofs.Common.{◌+◌, ◌*◌, ◌/◌, ◌%◌, get_or, sym, ◌∙◌}
use mathlib.Core.Bool.{and-false}
use Rattle.bits.specs.Bit.{bit}
use Rattle.bits.specs.Laws.Bit.{bit_of_zero}
use Rattle.cell_rows.specs.Rows.{row_words, row_bits}
use Rattle.cells.specs.Laws.CellPlace.{fit_by_word}
use Rattle.fit.proofs.fit.fitting.Goals as goal

pub returns-else-has : goal.returns-else-has
unfolding row_bits row_words
returns-else-has c =
    let a = c.args in
    record {
      bits = λ q l.
          sym (fit_by_word a.rows.now a.it.0 a.i q l
          ∙ rw (sym c.has.ensures ∙ c.if-has.false)
          (and-false (bit (get_or a.rows.now (a.it.0 / row_bits * row_words + a.i % row_words) 0) q)
          ∙ sym (bit_of_zero q)));
    }
