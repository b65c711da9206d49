-- `book::write_book`: each block is written behind the empty line behind the one before.
use Rattle.std.proofs.Common.{List, ℕ, ◌≤◌, length, map, sym, arith, le_trans}
use Rattle.spec.specs.Limits.{user_limit, role_limit}
use Rattle.spec.specs.Text.{Bytes, text_of}
use Rattle.spec.specs.Sheet.{sheet_of}
use Rattle.spec.specs.Book.{witness_line, witness_block}
use Rattle.cell_rows.specs.Rows.{row_words}
use Rattle.cell_rows.specs.Laws.Width.{roles_fit}
use Rattle.cell_rows.specs.CellPlaces.{grant_of}
use Rattle.book_length.specs.BookRows.{book_parts, rows_book}
use Rattle.book_length.specs.Laws.Placed.{users_lent, permissions_lent}
use Rattle.book_lines.specs.CountsText.{counts_text}
use Rattle.book_lines.specs.RowsSaid.{shown_roles, shown_users}
use Rattle.book_lines.specs.declared.counts.Counts.{Counts}
use Rattle.blocks.specs.Laws.Laid.{few_users}
use Rattle.text.specs.Written.{byte_within, fits_as, room_behind, then_written, within_buffer, written_as}
use Rattle.book.specs.Laws.BlockBehind.{BookRoom, first_fits, behind_first, at_second, behind_second, at_third}
use Rattle.book.specs.Laws.BlockBehind.{behind_third, at_fourth}
use Rattle.book.proofs.book.write_book.Goals as goal

room : (s : Bytes) (has gives witness : List ℕ) (counts : Counts) {before : Bytes}
    → length (rows_book s has gives witness counts) ≤ length before
    → BookRoom (counts_text counts) (text_of (shown_roles (sheet_of s) gives counts.roles))
    (text_of (shown_users (sheet_of s) has counts.roles))
    (text_of (witness_block (map (witness_line (sheet_of s)) (map grant_of witness)))) before
room s has gives witness counts fits = record { fits = fits_as (book_parts s has gives witness counts) fits }

pub put_counts-first-requires : goal.put_counts-first-requires
put_counts-first-requires c =
    let a = c.args in
    first_fits (room a.s.now a.has.now a.gives.now a.witness.now a.counts c.requires.counts_in_bounds)

pub bounds-out-first : goal.bounds-out-first
bounds-out-first c =
    let a = c.args in
    let r = room a.s.now a.has.now a.gives.now a.witness.now a.counts c.requires.counts_in_bounds in
    byte_within (behind_first r c.put_counts-first.ensures)

pub slice_bounds-put_roles-count : goal.slice_bounds-put_roles-count
slice_bounds-put_roles-count c =
    let a = c.args in
    let r = room a.s.now a.has.now a.gives.now a.witness.now a.counts c.requires.counts_in_bounds in
    within_buffer (at_second r (behind_first r c.put_counts-first.ensures))

pub slice_bounds-put_roles-start : goal.slice_bounds-put_roles-start
slice_bounds-put_roles-start c =
    let a = c.args in
    let r = room a.s.now a.has.now a.gives.now a.witness.now a.counts c.requires.counts_in_bounds in
    within_buffer (at_second r (behind_first r c.put_counts-first.ensures))

-- a role has a place in a row
pub put_roles-requires-clause-permissions_at : goal.put_roles-requires-clause-permissions_at
unfolding role_limit row_words
put_roles-requires-clause-permissions_at c =
    let asked = c.requires.laid_out in (
      permissions_lent asked.0 c.first_places-permissions.ensures,
      le_trans asked.1 roles_fit,
      omega (arith, asked.1),
    )

pub put_roles-requires-clause-roles_in_bounds : goal.put_roles-requires-clause-roles_in_bounds
put_roles-requires-clause-roles_in_bounds c =
    let a = c.args in
    let r = room a.s.now a.has.now a.gives.now a.witness.now a.counts c.requires.counts_in_bounds in
    room_behind (at_second r (behind_first r c.put_counts-first.ensures))

pub bounds-out-second : goal.bounds-out-second
bounds-out-second c =
    let a = c.args in
    let r = room a.s.now a.has.now a.gives.now a.witness.now a.counts c.requires.counts_in_bounds in
    byte_within (behind_second r (behind_first r c.put_counts-first.ensures) c.put_roles.ensures)

pub slice_bounds-put_users-count : goal.slice_bounds-put_users-count
slice_bounds-put_users-count c =
    let a = c.args in
    let r = room a.s.now a.has.now a.gives.now a.witness.now a.counts c.requires.counts_in_bounds in
    within_buffer
    (at_third r (behind_second r (behind_first r c.put_counts-first.ensures) c.put_roles.ensures))

pub slice_bounds-put_users-start : goal.slice_bounds-put_users-start
slice_bounds-put_users-start c =
    let a = c.args in
    let r = room a.s.now a.has.now a.gives.now a.witness.now a.counts c.requires.counts_in_bounds in
    within_buffer
    (at_third r (behind_second r (behind_first r c.put_counts-first.ensures) c.put_roles.ensures))

pub put_users-requires-clause-users_at : goal.put_users-requires-clause-users_at
unfolding row_words user_limit
put_users-requires-clause-users_at c =
    let asked = c.requires.laid_out in (
      users_lent asked.0 c.first_places-users.ensures,
      le_trans asked.1 roles_fit,
      omega (arith, few_users asked.0, asked.0.user_total),
    )

pub put_users-requires-clause-roles_in_bounds : goal.put_users-requires-clause-roles_in_bounds
put_users-requires-clause-roles_in_bounds c =
    let a = c.args in
    let r = room a.s.now a.has.now a.gives.now a.witness.now a.counts c.requires.counts_in_bounds in
    room_behind
    (at_third r (behind_second r (behind_first r c.put_counts-first.ensures) c.put_roles.ensures))

pub bounds-out-third : goal.bounds-out-third
bounds-out-third c =
    let a = c.args in
    let r = room a.s.now a.has.now a.gives.now a.witness.now a.counts c.requires.counts_in_bounds in
    let second = behind_second r (behind_first r c.put_counts-first.ensures) c.put_roles.ensures in
    byte_within (behind_third r second c.put_users.ensures)

pub slice_bounds-put_witness-count : goal.slice_bounds-put_witness-count
slice_bounds-put_witness-count c =
    let a = c.args in
    let r = room a.s.now a.has.now a.gives.now a.witness.now a.counts c.requires.counts_in_bounds in
    let second = behind_second r (behind_first r c.put_counts-first.ensures) c.put_roles.ensures in
    within_buffer (at_fourth r (behind_third r second c.put_users.ensures))

pub slice_bounds-put_witness-start : goal.slice_bounds-put_witness-start
slice_bounds-put_witness-start c =
    let a = c.args in
    let r = room a.s.now a.has.now a.gives.now a.witness.now a.counts c.requires.counts_in_bounds in
    let second = behind_second r (behind_first r c.put_counts-first.ensures) c.put_roles.ensures in
    within_buffer (at_fourth r (behind_third r second c.put_users.ensures))

pub put_witness-requires-clause-cells_in_bounds : goal.put_witness-requires-clause-cells_in_bounds
put_witness-requires-clause-cells_in_bounds c =
    let a = c.args in
    let r = room a.s.now a.has.now a.gives.now a.witness.now a.counts c.requires.counts_in_bounds in
    let second = behind_second r (behind_first r c.put_counts-first.ensures) c.put_roles.ensures in
    room_behind (at_fourth r (behind_third r second c.put_users.ensures))

pub returns : goal.returns
returns c =
    let a = c.args in
    let r = room a.s.now a.has.now a.gives.now a.witness.now a.counts c.requires.counts_in_bounds in
    let second = behind_second r (behind_first r c.put_counts-first.ensures) c.put_roles.ensures in
    written_as (sym (book_parts a.s.now a.has.now a.gives.now a.witness.now a.counts))
    (then_written (at_fourth r (behind_third r second c.put_users.ensures)) c.put_witness.ensures)
