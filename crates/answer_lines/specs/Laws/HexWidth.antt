-- A number of 32 bits has 8 hexadecimal digits where it is spelled in no fewer. Assumes nothing.
use Rattle.std.specs.Prelude.{ℕ, ◌-◌, ◌^◌, ◌≤◌, ◌<◌, ◌≡◌}
use Rattle.std.proofs.Common.{eq-or-lt_of_le, arith, sym, ⊎_elim}
use Rattle.std.proofs.Math.Nat.{pow-le-pow_right}
use Rattle.io.specs.Digits.{IsDigitCount}
use Rattle.answer_lines.specs.Answers.{digest_digits}

pub hex_width : (n k : ℕ) → n < 2 ^ 32 → IsDigitCount 16 digest_digits n k → k ≡ digest_digits
hex_width n k small fewest =
    ⊎_elim (λ (e : digest_digits ≡ k). sym e)
    (λ (more : digest_digits < k).
    let great : 16 ^ 8 ≤ 16 ^ (k - 1) = pow-le-pow_right {n = 16} (omega arith) {i = 8} {j = k - 1} (omega arith) in
    omega (arith, great, fewest.2 more))
    (eq-or-lt_of_le fewest.0)
