-- `role_names::put_role_fields`: a turn writes name i behind the names below i.
use Rattle.std.proofs.Common.{sym}
use Rattle.cell_text.specs.Laws.Parts.{part_ready, part_written}
use Rattle.text.specs.Written.{fits_as, room_behind, written_as}
use Rattle.book_lines.specs.Laws.Name.{role_field_parts}
use Rattle.book_lines.proofs.role_names.put_role_fields.Goals as goal

pub put_counted-at-requires : goal.put_counted-at-requires
put_counted-at-requires c =
    fits_as (role_field_parts c.loop-i.i) (room_behind (part_ready c.loop-i.invariant c.loop-i-test.true))

pub loop-i-preserved : goal.loop-i-preserved
loop-i-preserved c =
    part_written c.loop-i.invariant c.loop-i-test.true
    (written_as (sym (role_field_parts c.loop-i.i)) c.put_counted-at.ensures)
