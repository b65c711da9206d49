-- `row::row_of`: the words of the row are the user's.
use Rattle.std.proofs.Common.{rules, ◌≡◌, ◌+◌, ◌*◌, get_or, sym, ap, ◌∙◌}
use Rattle.bits.specs.Bit.{bit}
use Rattle.cell_rows.specs.Rows.{row_words, row_bits}
use Rattle.cells.specs.Laws.MadeCells.{all_called}
use Rattle.witness.specs.Laws.Row.{cell_in_word}
use Rattle.witness.proofs.row.row_of.Goals as goal

pub returns : goal.returns
unfolding row_bits row_words
returns c =
    let words = c.args.words.now in
    let u = c.args.u.0 in
    all_called
    (λ k w f' h.
    let here : w ≡ get_or words (u * row_words + k) 0 = search rules in
    (λ q l. ap (λ v. bit v q) here ∙ sym (cell_in_word words u k q l), search rules))
    c.from_fn.ensures.items
