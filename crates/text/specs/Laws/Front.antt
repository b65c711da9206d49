-- What was written is at the front of the buffer: its count is within the buffer. Assumes nothing.
use Rattle.std.specs.Prelude.{ℕ, ◌≤◌, ◌≡◌, length, take, drop}
use Rattle.std.proofs.Common.{arith, sym, ap, length-append, length-take-le}
use Rattle.spec.specs.Text.{Bytes}
use Rattle.text.specs.Written.{Written}

module _ {bytes before after : Bytes} {count : ℕ} (w : Written bytes before after count) where
  pub count_within : count ≤ length after
  count_within = omega (arith, w.counted, ap length w.buffer, length-append bytes (drop (length bytes) before))

  pub front_counted : count ≡ length (take count after)
  front_counted = sym (length-take-le count after count_within)
