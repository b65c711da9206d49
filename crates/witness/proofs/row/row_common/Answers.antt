-- `row::row_common`: a word of the row has the positions that both words have.
use Rattle.std.proofs.Common.{rules, ◌≡◌, ◌+◌, ◌*◌, ◌&&◌, get_or, sym, ap, ◌∙◌}
use Rattle.std.proofs.Math.Path.{ap₂}
use Rattle.std.specs.Int.Bits.{bit_and}
use Rattle.bits.specs.Bit.{bit}
use Rattle.bits.specs.Laws.Bit.{bit_of_and}
use Rattle.cell_rows.specs.Rows.{row_words, row_bits}
use Rattle.cells.specs.Laws.MadeCells.{all_called}
use Rattle.witness.specs.Laws.Row.{cell_in_word}
use Rattle.witness.proofs.row.row_common.Goals as goal

pub returns : goal.returns
unfolding row_bits row_words
returns c =
    let words = c.args.words.now in
    let others = c.args.others.now in
    let u = c.args.u.0 in
    let v = c.args.v.0 in
    all_called
    (λ k w f' h.
    let here : w ≡ bit_and (get_or words (u * row_words + k) 0) (get_or others (v * row_words + k) 0) =
    search rules in (
      λ q l. ap (λ b. bit b q) here ∙ bit_of_and _ _ q
          ∙ sym (ap₂ (λ b d. b && d) (cell_in_word words u k q l) (cell_in_word others v k q l)),
      search rules,
    ))
    c.from_fn.ensures.items
