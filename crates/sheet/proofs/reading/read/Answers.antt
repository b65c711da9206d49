-- `reading::read`: the lines of a sheet are found and no name stands twice exactly where it is accepted, and then what
-- was noted is the sheet's.
use Rattle.std.proofs.Common.{◌≡◌, Bool, true, false, not, ◌&&◌, take, arith, sym, length-take}
use Rattle.spec.specs.Vocabulary.{repeats}
use Rattle.spec.specs.Text.{Bytes, same_name}
use Rattle.names.specs.NamesAt.{all_names}
use Rattle.spec.specs.Limits.{permission_limit, user_limit}
use Rattle.bits.specs.Truth.{not_both}
use Rattle.sheet.specs.KeptSheet.{Notes, notes_of, SheetStands}
use Rattle.sheet.specs.Laws.KeptSheet.{new_sheet_room}
use Rattle.sheet.specs.Laws.KeptRead.{KeptAs, layout_of, apart, kept_read}
use Rattle.sheet.specs.Laws.KeptFound.{kept_names, unrefused_apart}
use Rattle.sheet.proofs.reading.read.Goals as goal

-- the names compared are those noted
judged : (s : Bytes) (n : Notes) → SheetStands s n → (b : Bool)
    → b ≡ (not (repeats same_name (all_names s (take n.counts.users n.users)))
    && not (repeats same_name (all_names s (take n.counts.permissions n.permissions)))) → b ≡ apart s n
judged s n stands b e = let names = kept_names s n stands in rw (names.0, names.1) at e

-- what was noted where no name stands twice
kept : (s : Bytes) (n : Notes) → SheetStands s n
    → true ≡ (not (repeats same_name (all_names s (take n.counts.users n.users)))
    && not (repeats same_name (all_names s (take n.counts.permissions n.permissions))))
    → KeptAs s (layout_of n) n.words
kept s n stands e = kept_read s n stands (sym (judged s n stands true e))

pub read_lines-requires : goal.read_lines-requires
unfolding user_limit
read_lines-requires c = rw c.no_rows-rows.ensures new_sheet_room

pub slice_bounds-permission_places-end : goal.slice_bounds-permission_places-end
unfolding permission_limit user_limit
slice_bounds-permission_places-end c =
    let first = c.in-Some.ensures.stand.first in omega (arith, first.few, first.room)

pub slice_bounds-are_apart-end-2 : goal.slice_bounds-are_apart-end-2
unfolding permission_limit user_limit
slice_bounds-are_apart-end-2 c =
    let first = c.in-Some.ensures.stand.first in simp length-take (omega (arith, first.few, first.room))

pub cause_of-requires-then-not-are_apart : goal.cause_of-requires-then-not-are_apart
cause_of-requires-then-not-are_apart c e =
    let s = c.args.s.now in
    let notes : Notes = notes_of c.read_lines.new.permissions c.read_lines.new.users c.read_lines.new.rows
    c.in-Some.counts in
    not_both (unrefused_apart s notes c.in-Some.ensures e)
    (sym (judged s notes c.in-Some.ensures false c.if-not-are_apart.ensures))

pub returns-clause-number_value : goal.returns-clause-number_value
returns-clause-number_value c =
    let notes : Notes = notes_of c.read_lines.new.permissions c.read_lines.new.users c.read_lines.new.rows
    c.in-Some.counts in
    sym (kept c.args.s.now notes c.in-Some.ensures c.if-not-are_apart.ensures).unrefused

pub returns-clause-laid_out : goal.returns-clause-laid_out
returns-clause-laid_out c =
    let notes : Notes = notes_of c.read_lines.new.permissions c.read_lines.new.users c.read_lines.new.rows
    c.in-Some.counts in
    let noted = kept c.args.s.now notes c.in-Some.ensures c.if-not-are_apart.ensures in
    (noted.laid_out, noted.rows, noted.only_names)
