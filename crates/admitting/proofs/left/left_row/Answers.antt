-- `left::left_row`: a word of the row has the positions of the user's word that the other has not.
use Rattle.std.proofs.Common.{rules}
use Rattle.cell_rows.specs.Rows.{row_words, row_bits}
use Rattle.cells.specs.Laws.MadeCells.{all_called}
use Rattle.admitting.specs.Laws.Left.{left_word}
use Rattle.admitting.proofs.left.left_row.Goals as goal

pub returns : goal.returns
unfolding row_words row_bits
returns c =
    let a = c.args in
    all_called
    (λ k w f' h. (left_word a.rows.now a.user.0 a.taken.now k w (search rules), search rules))
    c.from_fn.ensures.items
