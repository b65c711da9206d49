-- `decimal::put_decimal`: a number below ten is one digit, and any other is its tenth with one digit behind it. The
-- measure is the number.
use borrow.Author.Rules.{rules}
use Prim.Native.Nat.{ℕ, ◌<◌}
use native.Mathlib.Omega.{arith}
use lib.ListN.{length}
use borrow.Fn.Kinds.{In}
use borrow.Fn.PlainCycle.{Measures, is, falls, and}
use Rattle.decimal.specs.Laws.Digit.{one_digit, digit_more}
use Rattle.decimal.specs.Laws.DigitsWritten.{first_digit_written, last_digit_written}
use Rattle.decimal.proofs.decimal.put_decimal.Reads as put-decimal
use Rattle.decimal.proofs.decimal.put_decimal.Kinds as put-decimal-kinds
use Rattle.decimal.proofs.decimal.+put_decimal.Lts-put_decimal as lts
use Rattle.decimal.proofs.decimal.digit_of.Reads as digit-of-reads
use Rattle.decimal.proofs.decimal.+put_decimal.{statement}
use Rattle.decimal.proofs.decimal.+put_decimal.Tie.{close}

abbrev μ : Measures 1 put-decimal-kinds.ps ℕ
μ κs a = a.1.0

-- what the function is given at the measure t, and what a call of it asks below t
abbrev given_at : ℕ → In 1 put-decimal-kinds.ps
given_at t = and 1 put-decimal-kinds.ps (is 1 put-decimal-kinds.ps μ t) put-decimal.Pre

abbrev asked_below : ℕ → In 1 put-decimal-kinds.ps
asked_below t = and 1 put-decimal-kinds.ps (falls 1 put-decimal-kinds.ps ◌<◌ μ t) put-decimal.Pre

-- what the two callees ask and ensure
abbrev claims : ℕ → lts.Claims
claims t = (digit-of-reads.Asked, digit-of-reads.Learnt, asked_below t, put-decimal.Post)

module _ (t : ℕ) where
  digit_of_requires : lts.Need-digit_of-requires (claims t) (given_at t) put-decimal.Post
  digit_of_requires c κs = omega arith

  slice_write_out : lts.Need-bounds-out-0 (claims t) (given_at t) put-decimal.Post
  slice_write_out c = omega (arith, one_digit c.args.n (omega arith))

  same_length : lts.Need-shape_of-out-then-n-lt10 (claims t) (given_at t) put-decimal.Post
  same_length c = search rules

  returns : lts.Need-returns-then-n-lt10 (claims t) (given_at t) put-decimal.Post
  returns c =
      first_digit_written c.args.n c.digit_of.result c.args.out.now (omega arith)
      (omega (arith, one_digit c.args.n (omega arith))) c.digit_of.ensures

  put_decimal_requires : lts.Need-put_decimal-at-requires (claims t) (given_at t) put-decimal.Post
  put_decimal_requires c κs =
      let n = c.args.n in
      (omega arith, omega (arith, digit_more n (omega arith)))

  digit_of_requires_2 : lts.Need-digit_of-requires-2 (claims t) (given_at t) put-decimal.Post
  digit_of_requires_2 c κs = omega arith

  -- after the call for the tenth
  room : (c : lts.After-digit_of-2 (claims t) (given_at t) put-decimal.Post)
      → c.put_decimal-at.result < length
      c.args.out.now
  room c =
      let n = c.args.n in
      omega (arith, digit_more n (omega arith), c.put_decimal-at.ensures.counted)

  slice_write_out_2 : lts.Need-bounds-out-at (claims t) (given_at t) put-decimal.Post
  slice_write_out_2 c = omega (arith, room c, c.put_decimal-at.auto.out)

  add_result : lts.Need-overflow_add-result (claims t) (given_at t) put-decimal.Post
  add_result c = omega (arith, room c)

  same_length_2 : lts.Need-shape_of-out (claims t) (given_at t) put-decimal.Post
  same_length_2 c = search rules

  returns_2 : lts.Need-returns (claims t) (given_at t) put-decimal.Post
  returns_2 c =
      let n = c.args.n in
      last_digit_written n c.digit_of-2.result (omega arith) (room c) c.digit_of-2.ensures
      c.put_decimal-at.ensures

pub +put_decimal_spec : {M : Type 1} → statement M
+put_decimal_spec = close μ λ t. lts.spec (claims t) (given_at t) put-decimal.Post
    (digit_of_requires t)
    (slice_write_out t)
    (same_length t)
    (returns t)
    (put_decimal_requires t)
    (digit_of_requires_2 t)
    (slice_write_out_2 t)
    (add_result t)
    (same_length_2 t)
    (returns_2 t)
