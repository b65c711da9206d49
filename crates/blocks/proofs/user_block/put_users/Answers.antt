-- `user_block::put_users`: the word, the names behind it, the line feed behind them, and then the lines.
use Rattle.std.proofs.Common.{ℕ, List, ◌+◌, ◌≤◌, ◌++◌, length, set, sym, arith}
use Rattle.spec.specs.Text.{ascii, Bytes, text_of}
use Rattle.spec.specs.Sheet.{sheet_of}
use Rattle.text.specs.Line.{line_end}
use Rattle.book_lines.specs.Laws.LineWritten.{BlockRoom, behind_fields, behind_heading, behind_name, heading_room}
use Rattle.book_lines.specs.RowsSaid.{shown_users}
use Rattle.blocks.specs.Laws.Shown.{role_fields, user_lines, users_parts}
use Rattle.text.specs.Written.{Written, WrittenSoFar, byte_within, fits_as, place_within, rest_from, room_behind}
use Rattle.text.specs.Written.{then_written, with_rest, within_buffer, written_as}
use Rattle.blocks.proofs.user_block.put_users.Goals as goal

abbrev word : Bytes
word = ascii "user"

room : (s : Bytes) (has : List ℕ) (roles : ℕ) {before : Bytes}
    → length (text_of (shown_users (sheet_of s) has roles)) ≤ length before
    → BlockRoom word (role_fields roles) (user_lines (sheet_of s) has roles) before
room s has roles fits = record { fits = fits_as (users_parts (sheet_of s) has roles) fits }

-- behind the names, and behind the line feed
named : (s : Bytes) (has : List ℕ) (roles : ℕ) {before mid rest : Bytes} {at m : ℕ}
    → length (text_of (shown_users (sheet_of s) has roles)) ≤ length before
    → Written word before mid at
    → Written (role_fields roles) (rest_from at mid) rest m
    → WrittenSoFar (word ++ role_fields roles) line_end before (with_rest at mid rest) (at + m)
named s has roles fits w v = behind_fields (heading_room (room s has roles fits)) w v

headed : (s : Bytes) (has : List ℕ) (roles : ℕ) {before mid rest : Bytes} {at m : ℕ}
    → length (text_of (shown_users (sheet_of s) has roles)) ≤ length before
    → Written word before mid at
    → Written (role_fields roles) (rest_from at mid) rest m
    → WrittenSoFar ((word ++ role_fields roles) ++ line_end) (user_lines (sheet_of s) has roles) before
    (set (with_rest at mid rest) (at + m) 10) (at + m + 1)
headed s has roles fits w v = behind_heading (room s has roles fits) (named s has roles fits w v)

pub put_role_fields-requires : goal.put_role_fields-requires
put_role_fields-requires c =
    let a = c.args in (
      c.requires.users_at.1,
      room_behind (behind_name (heading_room (room a.s.now a.has.now a.roles c.requires.roles_in_bounds))
          c.put_bytes-names.ensures),
    )

pub bounds-out-end : goal.bounds-out-end
bounds-out-end c =
    let a = c.args in
    byte_within (named a.s.now a.has.now a.roles c.requires.roles_in_bounds c.put_bytes-names.ensures
    c.put_role_fields.ensures)

pub slice_bounds-put_user_lines-count : goal.slice_bounds-put_user_lines-count
slice_bounds-put_user_lines-count c =
    let a = c.args in
    within_buffer (headed a.s.now a.has.now a.roles c.requires.roles_in_bounds c.put_bytes-names.ensures
    c.put_role_fields.ensures)

pub slice_bounds-put_user_lines-start : goal.slice_bounds-put_user_lines-start
slice_bounds-put_user_lines-start c =
    let a = c.args in
    within_buffer (headed a.s.now a.has.now a.roles c.requires.roles_in_bounds c.put_bytes-names.ensures
    c.put_role_fields.ensures)

pub put_user_lines-requires-clause-room : goal.put_user_lines-requires-clause-room
put_user_lines-requires-clause-room c =
    let a = c.args in
    room_behind (headed a.s.now a.has.now a.roles c.requires.roles_in_bounds c.put_bytes-names.ensures
    c.put_role_fields.ensures)

pub returns : goal.returns
returns c =
    let a = c.args in
    written_as (sym (users_parts (sheet_of a.s.now) a.has.now a.roles))
    (then_written (headed a.s.now a.has.now a.roles c.requires.roles_in_bounds c.put_bytes-names.ensures
    c.put_role_fields.ensures) c.put_user_lines.ensures)
