-- `users_block::users_heading`: the word, the names and the line feed, one after the other.
use Rattle.text.specs.Line.{line_end}
use Rattle.steps.specs.Laws.Stands.{stands_then}
use Rattle.steps.specs.Laws.Step.{expects_then}
use Rattle.read_rows.proofs.users_block.users_heading.Goals as goal

pub returns : goal.returns
returns c =
    expects_then line_end (stands_then c.in_ok-names.ensures c.in_ok-end.ensures) c.expect_byte.result
    c.expect_byte.ensures
