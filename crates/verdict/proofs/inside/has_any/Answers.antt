-- `verdict::inside::has_any`: a word of 0 has no position, and any other one has.
use Rattle.std.proofs.Common.{◌≡◌, ◌<◌, ◌≤◌, not, arith, sym, ap, ◌∙◌, eq-eqb, ne_eqb}
use mathlib.Core.Logic.{⊎_elim}
use Rattle.bits.specs.Bit.{bit, word_bits}
use Rattle.bits.specs.Laws.Below.{below_or_from, none_below_intro}
use Rattle.bits.specs.Laws.Bit.{bit_of_zero}
use Rattle.bits.specs.Laws.Word.{some_bit}
use Rattle.verdict.proofs.inside.has_any.Goals as goal

pub returns : goal.returns
returns c =
    let w = c.args.w in
    ⊎_elim
    (λ (l : w < 1). let nothing : w ≡ 0 = omega arith in
    ap not (eq-eqb w 0 nothing) ∙ sym (none_below_intro word_bits (bit w) (λ q k. rw nothing (bit_of_zero q))))
    (λ (l : 1 ≤ w). ap not (ne_eqb w 0 (omega arith)) ∙ sym (some_bit word_bits w l c.ranges.w.fits))
    (below_or_from w 1)
