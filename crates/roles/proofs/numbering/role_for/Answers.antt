-- `roles::role_for`: the table's mark for no role yet is the one that the definition tests. Where the class has a role
-- the table has it already, and else the next one is written.
use Rattle.std.proofs.Common.{arith, refl, sym, get_or, eq-eqb, ne_eqb}
use Rattle.std.proofs.lemmas.List.{set-get_or}
use Rattle.spec.specs.Limits.{grant_limit}
use Rattle.roles.specs.RoleNumbers.{no_role}
use Rattle.roles.proofs.numbering.role_for.Goals as goal

pub offset_bounds-table-class : goal.offset_bounds-table-class
unfolding grant_limit
offset_bounds-table-class c = omega arith

pub bounds-table-class : goal.bounds-table-class
unfolding grant_limit
bounds-table-class c = omega arith

pub overflow_cast-table : goal.overflow_cast-table
unfolding grant_limit
overflow_cast-table c = omega arith

pub returns-then-known-ne-NO_ROLE : goal.returns-then-known-ne-NO_ROLE
unfolding grant_limit
returns-then-known-ne-NO_ROLE c =
    let a = c.args in (
      rw (c.role.ensures, ne_eqb (get_or a.table.now a.class 0) no_role c.if-known-ne-NO_ROLE.true),
      rw c.role.ensures (sym (set-get_or a.table.now a.class 0)),
    )

pub returns : goal.returns
unfolding grant_limit
returns c =
    let a = c.args in
    (rw (eq-eqb (get_or a.table.now a.class 0) no_role c.if-known-ne-NO_ROLE.false), refl)
