-- `user_block::put_user_lines`: a turn writes line i, which is that of the user's name, behind the lines below i.
use Rattle.std.proofs.Common.{sym}
use Rattle.spec.specs.Sheet.{sheet_of}
use Rattle.cell_text.specs.Laws.Parts.{part_ready, part_written}
use Rattle.text.specs.Written.{fits_as, room_behind, written_as}
use Rattle.blocks.specs.Laws.Laid.{user_counted}
use Rattle.blocks.specs.Laws.Shown.{user_line_named}
use Rattle.blocks.proofs.user_block.put_user_lines.Goals as goal

pub put_named_line-at-requires-clause-count_in_bounds :
    goal.put_named_line-at-requires-clause-count_in_bounds
put_named_line-at-requires-clause-count_in_bounds c =
    fits_as
    (sym (user_line_named (sheet_of c.args.s.now) c.args.has.now c.args.roles c.loop-i.i c.user_name_in-name.ensures))
    (room_behind (part_ready c.loop-i.invariant (user_counted c.requires.users_at.0 c.loop-i-test.true)))

pub loop-i-preserved : goal.loop-i-preserved
loop-i-preserved c =
    part_written c.loop-i.invariant (user_counted c.requires.users_at.0 c.loop-i-test.true)
    (written_as
    (user_line_named (sheet_of c.args.s.now) c.args.has.now c.args.roles c.loop-i.i c.user_name_in-name.ensures)
    c.put_named_line-at.ensures)
