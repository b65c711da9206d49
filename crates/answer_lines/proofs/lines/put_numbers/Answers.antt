-- `lines::put_numbers`: a turn writes a number behind those before it.
use Rattle.cell_text.specs.Laws.Parts.{part_ready, part_written}
use Rattle.text.specs.Written.{room_behind}
use Rattle.answer_lines.proofs.lines.put_numbers.Goals as goal

pub put_counted-at-requires : goal.put_counted-at-requires
put_counted-at-requires c = room_behind (part_ready c.loop-number.invariant c.loop-number-test.true)

pub loop-number-preserved : goal.loop-number-preserved
loop-number-preserved c =
    part_written c.loop-number.invariant c.loop-number-test.true c.put_counted-at.ensures
