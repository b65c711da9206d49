-- What is left over of a row, word by word: a word of it has the positions of the user's word that the other has not.
use Rattle.std.specs.Prelude.{ℕ, ◌+◌, ◌*◌, ◌<◌, ◌≡◌, not, ◌&&◌, List, get_or}
use Rattle.std.proofs.Math.Arith.{digits_div, digits_mod}
use Rattle.bits.specs.Bit.{bit, word_bits}
use Rattle.cell_rows.specs.Rows.{row_words}
use Rattle.admitting.specs.LeftRow.{not_taken}

pub left_word : (rows : List ℕ) (u : ℕ) (taken : List ℕ) (k w : ℕ)
    → ((q : ℕ) → bit w q ≡ (bit (get_or rows (u * row_words + k) 0) q && not (bit (get_or taken k 0) q)))
    → (q : ℕ) → q < word_bits → bit w q ≡ not_taken rows u taken (k * word_bits + q)
left_word rows u taken k w says q l = rw (digits_div k l, digits_mod k l) (says q)
