-- `length::witness_length`: a turn adds the length of the line of its cell, whose two names are short.
use Rattle.std.proofs.Common.{◌≡◌, ◌+◌, ◌<◌, ◌≤◌, ℕ, List, arith, get_or, length, sym}
use Rattle.spec.specs.Limits.{grant_limit, name_limit}
use Rattle.spec.specs.Text.{Bytes}
use Rattle.spec.specs.Sheet.{sheet_of, permission_name, user_name}
use Rattle.cell_rows.specs.CellPlaces.{grant_of}
use Rattle.names.specs.LaidOut.{PermissionsAt, UsersAt}
use Rattle.decimal.specs.Measured.{Measured, adding_ends, measured_within, part_added, piece_most}
use Rattle.book_lines.specs.RowsSaid.{CellsWithin}
use Rattle.blocks.specs.WitnessText.{cell_line}
use Rattle.book_length.specs.Laws.NameBytes.{permission_short, user_short}
use Rattle.book_length.specs.Laws.WitnessMeasured.{cell_measured}
use Rattle.book_length.proofs.length.witness_length.Goals as goal

-- the line of a cell is as long as its two names and two bytes more
measured : {text : Bytes} {users permissions cells : List ℕ} {i cell u p : ℕ} {name held : Bytes}
    → (UsersAt text users × PermissionsAt text permissions × CellsWithin cells (sheet_of text)) → i < length cells
    → cell ≡ get_or cells i 0 → u ≡ (grant_of cell).user → p ≡ (grant_of cell).permission
    → name ≡ user_name (sheet_of text) u → held ≡ permission_name (sheet_of text) p
    → Measured (cell_line (sheet_of text) (get_or cells i 0)) piece_most (length name + length held + 2)
measured {text} {cells = cells} {i} {u = u} {p} {name} {held} pre more same a b e f =
    let user : u ≡ (grant_of (get_or cells i 0)).user = rw (sym same) a in
    let permission : p ≡ (grant_of (get_or cells i 0)).permission = rw (sym same) b in
    let name_fits : length name ≤ name_limit = rw e (user_short pre.0 u (rw user (pre.2.user_below i more))) in
    let held_fits : length held ≤ name_limit =
    rw f (permission_short pre.1 p (rw permission (pre.2.permission_below i more))) in
    cell_measured (sheet_of text) (get_or cells i 0) user permission e f name_fits held_fits

pub overflow_add-total-in-loop-number-2 : goal.overflow_add-total-in-loop-number-2
unfolding grant_limit
overflow_add-total-in-loop-number-2 c =
    let line = measured c.requires c.loop-number-test.true c.from.ensures c.user_of.ensures c.permission_of.ensures
    c.user_name_in-name.ensures c.permission_name_in-held.ensures in
    omega (arith, line.small, c.loop-number.invariant.small, c.loop-number-test.true, c.requires.2.few)

pub loop-number-preserved : goal.loop-number-preserved
loop-number-preserved c =
    part_added c.loop-number.invariant c.loop-number-test.true
    (measured c.requires c.loop-number-test.true c.from.ensures c.user_of.ensures c.permission_of.ensures
    c.user_name_in-name.ensures c.permission_name_in-held.ensures)

pub returns : goal.returns
unfolding grant_limit
returns c =
    measured_within (adding_ends c.loop-number.invariant c.loop-number-test.false) (omega (arith, c.requires.2.few))
