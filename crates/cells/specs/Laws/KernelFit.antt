-- Past the words of the rows nobody holds anything.
use Rattle.std.specs.Prelude.{ℕ, ◌+◌, ◌*◌, ◌/◌, ◌%◌, ◌≤◌, ◌≡◌, false, List, length}
use Rattle.std.proofs.Math.ListN.{get_or-eq_default}
use Rattle.bits.specs.Bit.{word_bits}
use Rattle.bits.specs.Laws.Bit.{bit_of_zero}
use Rattle.cell_rows.specs.Rows.{row_words, cell}

pub unheld_past : (words : List ℕ) (u p : ℕ) → length words ≤ u * row_words + p / word_bits → cell words u p ≡ false
unheld_past words u p l = rw (get_or-eq_default words 0 l) (bit_of_zero (p % word_bits))
