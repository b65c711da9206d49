-- `digits::digits_of`: what the digits from the index on say, after those before it, is what all of them say.
use Rattle.std.proofs.Common.{arith, get_or, sym, ◌∙◌}
use Rattle.std.proofs.Math.Bool.{So}
use Rattle.spec.specs.Decimal.{is_digit}
use Rattle.bits.specs.Truth.{not_both}
use Rattle.digits.specs.Capped.{digits_next_at, digits_off_at}
use Rattle.digits.proofs.digits.digits_of.Goals as goal

pub returns-then-not-is_ascii_digit : goal.returns-then-not-is_ascii_digit
returns-then-not-is_ascii_digit c =
    sym (digits_off_at c.args.cap c.loop-b.n c.args.field.now c.loop-b.b-index c.loop-b-test.true
    (λ t. not_both t (sym c.is_ascii_digit.ensures.value ∙ c.if-not-is_ascii_digit.true)))
    ∙ c.loop-b.invariant.1

pub loop-b-preserved : goal.loop-b-preserved
loop-b-preserved c =
    let s = c.args.field.now in
    let i = c.loop-b.b-index in
    let digit : So (is_digit (get_or s i 0)) = sym c.is_ascii_digit.ensures.value ∙ c.if-not-is_ascii_digit.false in (
      omega arith,
      rw c.with_digit-n.ensures
          (sym (digits_next_at c.args.cap c.loop-b.n s i c.loop-b-test.true digit) ∙ c.loop-b.invariant.1),
    )
