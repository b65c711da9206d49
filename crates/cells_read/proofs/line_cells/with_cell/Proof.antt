-- `line_cells::with_cell`: an odd byte has the position i alone once shifted, and an even byte has none.
use borrow.Author.Rules.{rules}
use Prim.Native.Nat.{ℕ, ◌*◌, ◌%◌, ◌^◌, ◌<◌}
use native.Mathlib.Nat.{zero-mul}
use mathlib.Core.Path.{◌≡◌, sym, ◌∙◌}
use mathlib.Core.Logic.{◌⊎◌, inl, inr}
use mathlib.Core.Bool.{◌&&◌, and-true, and-false}
use lib.Dec.{eqb}
use Rattle.bits.specs.Bit.{bit, word_bits}
use Rattle.bits.specs.Laws.Bit.{bit_of_or, bit_of_zero, bit_one_shifted, one_shifted, even_or_odd}
use Rattle.cells_read.proofs.line_cells.with_cell.Statement.{statement}
use Rattle.cells_read.proofs.line_cells.with_cell.Tie as tie

shifted : (d i q : ℕ) → i < word_bits → (d ≡ 0) ⊎ (d ≡ 1) → bit (d * 2 ^ i % 2 ^ word_bits) q ≡ (eqb q i && eqb d 1)
shifted d i q h (inl e) = rw (e, zero-mul (2 ^ i)) (bit_of_zero q ∙ sym (and-false (eqb q i)))
shifted d i q h (inr e) = rw (e, one_shifted word_bits h) (bit_one_shifted i q ∙ sym (and-true (eqb q i)))

returns : tie.Need-returns
returns c q =
    bit_of_or c.args.word (c.args.cell % 2 * 2 ^ c.args.i % 2 ^ word_bits) q
    ∙ rw (shifted (c.args.cell % 2) c.args.i q c.requires (even_or_odd c.args.cell))

pub with_cell_spec : {M : Type 1} → statement M
with_cell_spec =
    tie.close (tie.spec (λ c. search rules) (λ c. search rules) returns)
