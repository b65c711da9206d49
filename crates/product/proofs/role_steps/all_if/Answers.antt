-- `product::role_steps::all_if`: a word with every position, and the word 0.
use Rattle.std.proofs.Common.{sym, ◌∙◌, lt-ltb}
use Rattle.bits.specs.Bit.{word_bits}
use Rattle.bits.specs.Laws.Bit.{bit_of_zero, bit_full}
use Rattle.product.proofs.role_steps.all_if.Goals as goal

pub returns-then-yes : goal.returns-then-yes
returns-then-yes c = λ q l. bit_full word_bits q ∙ lt-ltb q word_bits l ∙ sym c.if-yes.true

pub returns-else-yes : goal.returns-else-yes
returns-else-yes c = λ q l. bit_of_zero q ∙ sym c.if-yes.false
