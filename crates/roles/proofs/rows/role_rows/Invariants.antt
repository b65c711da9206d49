-- `roles::role_rows`: after i turns the roles are those of the grants of the first i words.
use Rattle.std.proofs.Common.{◌*◌}
use Rattle.bits.specs.Bit.{word_bits}
use Rattle.roles.specs.RoleWalk.{RolesTo}
use Rattle.roles.proofs.rows.role_rows.Given as goal

abbrev pub invariant-loop-i : goal.invariant-loop-i
invariant-loop-i l = RolesTo l.rows l.class (l.i * word_bits) l.table l.has l.gives l.count
