-- `digits::count_of`: the first digit tells `0`, a leading zero and any other count apart.
use Rattle.std.proofs.Common.{arith, sym, ◌∙◌}
use Rattle.digits.specs.Capped.{count_cap, no_digits, count_zero, leading_zero, no_leading_zero}
use Rattle.digits.proofs.digits.count_of.Goals as goal

pub returns-then-field-eq0 : goal.returns-then-field-eq0
returns-then-field-eq0 c = sym (no_digits c.args.field.now (omega arith))

pub returns-then-field-ne48 : goal.returns-then-field-ne48
unfolding count_cap
returns-then-field-ne48 c =
    c.digits_of.ensures ∙ sym (no_leading_zero c.args.field.now (λ z. omega arith) (λ z. omega arith))

pub returns-then-field-eq1 : goal.returns-then-field-eq1
returns-then-field-eq1 c = sym (count_zero c.args.field.now (omega arith) (omega arith))

pub returns : goal.returns
returns c = sym (leading_zero c.args.field.now (λ z. omega arith) (omega arith) (λ z. omega arith))
