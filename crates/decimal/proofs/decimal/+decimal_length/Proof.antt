-- `decimal::decimal_length`: a number below ten has one digit, and any other one more than its tenth. The measure is
-- the number.
use Prim.Native.Nat.{ℕ, ◌<◌}
use native.Mathlib.Omega.{arith}
use mathlib.Core.Path.{sym}
use borrow.Fn.Kinds.{In}
use borrow.Fn.PlainCycle.{Measures, is, falls, and}
use Rattle.decimal.specs.Laws.Digit.{one_digit}
use Rattle.decimal.specs.Laws.DigitsMeasured.{one_digit_more}
use Rattle.decimal.proofs.decimal.decimal_length.Reads as decimal_length
use Rattle.decimal.proofs.decimal.decimal_length.Kinds as decimal-length-kinds
use Rattle.decimal.proofs.decimal.+decimal_length.Lts-decimal_length as lts
use Rattle.decimal.proofs.decimal.+decimal_length.{statement}
use Rattle.decimal.proofs.decimal.+decimal_length.Tie.{close}

abbrev μ : Measures 0 decimal-length-kinds.ps ℕ
μ κs a = a.0

-- what the function is given at the measure t, and what a call of it asks below t
abbrev given_at : ℕ → In 0 decimal-length-kinds.ps
given_at t = and 0 decimal-length-kinds.ps (is 0 decimal-length-kinds.ps μ t) decimal_length.Pre

abbrev asked_below : ℕ → In 0 decimal-length-kinds.ps
asked_below t = and 0 decimal-length-kinds.ps (falls 0 decimal-length-kinds.ps ◌<◌ μ t) decimal_length.Pre

-- what a call of it asks and ensures
abbrev claims : ℕ → lts.Claims
claims t = (asked_below t, decimal_length.Post)

module _ (t : ℕ) where
  returns : lts.Need-returns-then-n-lt10 (claims t) (given_at t) decimal_length.Post
  returns c = record { counted = sym (one_digit c.before.args.n (omega arith)); small = omega arith }

  requires : lts.Need-decimal_length-requires (claims t) (given_at t) decimal_length.Post
  requires c κs = (omega arith, tt)

  add_result : lts.Need-overflow_add-result (claims t) (given_at t) decimal_length.Post
  add_result c = omega (arith, c.decimal_length.ensures.small)

  returns_2 : lts.Need-returns (claims t) (given_at t) decimal_length.Post
  returns_2 c = one_digit_more c.before.before.args.n c.before.before.ranges.n.fits (omega arith)
      c.decimal_length.ensures

pub +decimal_length_spec : {M : Type 1} → statement M
+decimal_length_spec =
    close μ
    λ t. lts.spec (claims t) (given_at t) decimal_length.Post (returns t) (requires t) (add_result t) (returns_2 t)
