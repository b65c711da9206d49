-- `role_block::put_role_lines`: a turn writes line i behind the lines below i.
use Rattle.cell_text.specs.Laws.Parts.{part_ready, part_written}
use Rattle.text.specs.Written.{room_behind}
use Rattle.blocks.proofs.role_block.put_role_lines.Goals as goal

pub put_role_line-at-requires-clause-room : goal.put_role_line-at-requires-clause-room
put_role_line-at-requires-clause-room c =
    room_behind (part_ready c.loop-i.invariant c.loop-i-test.true)

pub loop-i-preserved : goal.loop-i-preserved
loop-i-preserved c = part_written c.loop-i.invariant c.loop-i-test.true c.put_role_line-at.ensures
