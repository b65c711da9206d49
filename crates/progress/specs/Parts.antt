-- The parts of the line in the order in which they are written. Assumes nothing.
use Rattle.std.specs.Prelude.{ℕ, ◌++◌}
use Rattle.std.proofs.Math.Option.{Option}
use Rattle.spec.specs.Text.{Bytes, ascii}
use Rattle.spec.specs.Roles.{Standing}
use Rattle.spec.specs.Decimal.{decimal}
use Rattle.spec.specs.Calls.{SearchAnswer}
use Rattle.spec.specs.LongSearch.{depth_gained, named_word}

-- what stands behind the steps so far: the depth gained
abbrev pub gained_part : ℕ → ℕ → Bytes
gained_part placed taken_back = ascii " steps so far, depth gained " ++ depth_gained placed taken_back

-- what stands behind the depth gained: the roles, and then the bound
abbrev pub roles_part : ℕ → Bytes
roles_part roles = ascii ", " ++ decimal roles

abbrev pub bound_part : ℕ → Bytes
bound_part bound = ascii " roles, bound " ++ decimal bound

-- the line up to the bound, each part behind those before it
abbrev pub counts_part : ℕ → SearchAnswer → Bytes
counts_part so_far answer =
    ((decimal so_far ++ gained_part answer.placed answer.taken_back) ++ roles_part answer.roles)
    ++ bound_part answer.bound

-- what stands behind the bound: the state, and the steps a second
abbrev pub speed_part : Option Standing → ℕ → Bytes
speed_part named speed = (ascii ", " ++ named_word named) ++ ascii ", " ++ decimal speed

-- what ends the line
abbrev pub last_part : Bytes
last_part = ascii " steps a second\n"

-- the bytes that a line is lent, which are more than any line has
abbrev pub progress_most : ℕ
progress_most = 192
