-- `users_block::expect_roles`: the next name is what stands at the front of the buffer.
use Rattle.std.proofs.Common.{arith, ℕ}
use Rattle.spec.specs.Text.{Bytes}
use Rattle.spec.specs.Book.{role_name}
use Rattle.text.specs.Line.{behind_comma}
use Rattle.steps.specs.Laws.Stands.{stands_then}
use Rattle.steps.specs.Laws.Step.{stands_more, misses_first, misses_second, misses_known}
use Rattle.cell_rows.specs.Laws.Width.{roles_fit}
use Rattle.book_lines.specs.Laws.LineWritten.{front_written}
use Rattle.read_rows.specs.Laws.RoleNames.{role_name_short}
use Rattle.read_rows.proofs.users_block.expect_roles.Goals as goal

abbrev field : ℕ → Bytes
field r = behind_comma (role_name r)

pub returns-in_err-start : goal.returns-in_err-start
returns-in_err-start c =
    rw c.from_residual.ensures
    (misses_known c.loop-r.r c.args.roles field c.loop-r-test.true c.loop-r.invariant
    (misses_first (role_name c.loop-r.r) c.in_err-start.ensures))

pub put_role_name-n-requires : goal.put_role_name-n-requires
put_role_name-n-requires c = (omega (arith, roles_fit), role_name_short c.loop-r.r (omega arith))

pub returns-in_err-next : goal.returns-in_err-next
returns-in_err-next c =
    rw c.from_residual-in_err-next.ensures
    (misses_known c.loop-r.r c.args.roles field c.loop-r-test.true c.loop-r.invariant
    (misses_second (role_name c.loop-r.r) c.in_ok-start.ensures
    (rw (front_written c.put_role_name-n.ensures) at c.in_err-next.ensures)))

pub loop-r-preserved : goal.loop-r-preserved
loop-r-preserved c =
    stands_more c.loop-r.r field c.loop-r.invariant
    (stands_then c.in_ok-start.ensures (rw (front_written c.put_role_name-n.ensures) at c.in_ok-next.ensures))
