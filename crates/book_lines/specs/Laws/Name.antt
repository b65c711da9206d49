-- Role names as they are written: `R`, then the number from 1 on.
use Rattle.std.specs.Prelude.{ℕ, ◌+◌, ◌≤◌, ◌<◌, ◌≡◌, ◌++◌, length}
use Rattle.std.proofs.Common.{add-one, arith, ap}
use Rattle.spec.specs.Text.{ascii}
use Rattle.spec.specs.Decimal.{decimal}
use Rattle.spec.specs.Book.{role_name}
use Rattle.decimal.specs.Laws.Decimal.{decimal_length_three}
use Rattle.text.specs.Line.{behind_comma}

-- a name, and a name behind a comma
pub role_name_parts : (r : ℕ) → role_name r ≡ ascii "R" ++ decimal (r + 1)
unfolding role_name
role_name_parts r = rw (add-one r)

pub role_field_parts : (r : ℕ) → behind_comma (role_name r) ≡ ascii ",R" ++ decimal (r + 1)
role_field_parts r = ap behind_comma (role_name_parts r)

-- no name of a role up to `R999` is longer than that
pub role_name_short : (r : ℕ) → r < 999 → length (role_name r) ≤ 4
role_name_short r h = rw (role_name_parts r) (omega (arith, decimal_length_three (r + 1) (omega arith)))
