-- A role's name has four bytes at most, so it is written to a buffer of four.
use Rattle.std.specs.Prelude.{ℕ, ◌≤◌, ◌<◌, ◌≡◌, length}
use Rattle.std.proofs.Common.{arith}
use Rattle.spec.specs.Limits.{role_limit}
use Rattle.spec.specs.Text.{Bytes}
use Rattle.spec.specs.Book.{role_name}
use Rattle.text.specs.Written.{Written}
use Rattle.right.specs.WordLaws.{role_name_length}

pub role_name_short : (r : ℕ) → r < role_limit → length (role_name r) ≤ 4
unfolding role_limit
role_name_short r h = role_name_length 2 r (omega arith)

-- a name that was written is no longer than the buffer
pub name_within : (r : ℕ) {before after : Bytes} {n : ℕ} → r < role_limit → Written (role_name r) before after n
    → length after ≡ 4 → n ≤ length after
name_within r h w e = omega (arith, w.counted, e, role_name_short r h)
