-- `row::row_apart`: a word of the row has the positions that only the first of the words has.
use Rattle.std.proofs.Common.{rules, ◌≡◌, ◌+◌, ◌*◌, ◌&&◌, not, ℕ, get_or, sym, ◌∙◌}
use Rattle.std.proofs.Math.Path.{ap₂}
use Rattle.bits.specs.Bit.{bit}
use Rattle.cell_rows.specs.Rows.{row_words, row_bits}
use Rattle.cells.specs.Laws.MadeCells.{all_called}
use Rattle.witness.specs.Laws.Row.{cell_in_word}
use Rattle.witness.proofs.row.row_apart.Goals as goal

pub returns : goal.returns
unfolding row_bits row_words
returns c =
    let words = c.args.words.now in
    let others = c.args.others.now in
    let u = c.args.u.0 in
    all_called
    (λ k w f' h.
    let here : (q : ℕ)
    → bit w q ≡ (bit (get_or words (u * row_words + k) 0) q && not (bit (get_or others (u * row_words + k) 0) q)) =
    search rules in (
      λ q l. here q
          ∙ sym (ap₂ (λ b d. b && not d) (cell_in_word words u k q l) (cell_in_word others u k q l)),
      search rules,
    ))
    c.from_fn.ensures.items
