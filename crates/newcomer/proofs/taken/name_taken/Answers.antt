-- `taken::name_taken`: the first field of the line is the newcomer's name, and it is looked for among all users.
use Rattle.std.proofs.Common.{sym, ap, ◌∙◌, length-take-le}
use Rattle.std.specs.Option.{is_some}
use Rattle.spec.specs.Sheet.{sheet_of}
use Rattle.names.specs.Laws.LaidOut.{users_at}
use Rattle.names.specs.Laws.NamesThere.{users_there}
use Rattle.longer.specs.OneLine.{added_name}
use Rattle.newcomer.specs.Laws.NameTaken.{name_of_line, found_is_known}
use Rattle.newcomer.proofs.taken.name_taken.Goals as goal

pub find_from-requires : goal.find_from-requires
find_from-requires c =
    let there = users_there (users_at c.args.sheet.now c.args.layout c.requires) in (there.inside, there.apart)

pub slice_bounds-find_from-end : goal.slice_bounds-find_from-end
slice_bounds-find_from-end c =
    rw c.field-to.ensures (sym (length-take-le _ _ (name_of_line c.args.line.now).within))

pub returns : goal.returns
returns c =
    let there = users_there (users_at c.args.sheet.now c.args.layout c.requires) in
    c.is_some.ensures
    ∙ ap is_some (rw (there.same, c.field-to.ensures, (name_of_line c.args.line.now).reads) at c.find_from.ensures)
    ∙ found_is_known (sheet_of c.args.sheet.now).users (added_name c.args.line.now)
