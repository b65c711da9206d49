-- `first_line::permissions_line`: what stands in the sheet behind `user` up to its first line feed.
use Rattle.book_lines.specs.Laws.FirstLine.{user_there, some_feed, permissions_there}
use Rattle.book_lines.proofs.first_line.permissions_line.Goals as goal

pub part_end-requires : goal.part_end-requires
part_end-requires c = user_there c.args.sheet.now c.requires

pub returns-in_default : goal.returns-in_default
returns-in_default c = absurd (some_feed c.args.sheet.now c.requires c.in_default.ensures)

pub returns : goal.returns
returns c = permissions_there c.args.sheet.now c.requires c.in-Some.ensures
