-- `role_block::put_roles`: the lines are written where the line of names ended, for as many permissions as there are
-- places.
use Rattle.std.proofs.Common.{ℕ, List, ◌≤◌, length, sym, ap}
use Rattle.spec.specs.Text.{Bytes, line_text, text_of}
use Rattle.spec.specs.Sheet.{sheet_of, permission_count}
use Rattle.text.specs.Written.{Written, WrittenSoFar, fits_as, room_behind, then_written, written_as}
use Rattle.book_lines.specs.RowsSaid.{role_heading, shown_roles}
use Rattle.blocks.specs.Laws.Laid.{permissions_in_row}
use Rattle.blocks.specs.Laws.Shown.{role_lines, roles_parts}
use Rattle.blocks.proofs.role_block.put_roles.Goals as goal

behind_heading : (s : Bytes) (gives : List ℕ) (roles : ℕ) {before mid : Bytes} {at : ℕ}
    → length (text_of (shown_roles (sheet_of s) gives roles)) ≤ length before
    → Written (line_text (role_heading (sheet_of s))) before mid at
    → WrittenSoFar (line_text (role_heading (sheet_of s)))
    (role_lines gives (permission_count (sheet_of s)) roles) before mid at
behind_heading s gives roles fits w =
    record { written = w; fits = fits_as (roles_parts (sheet_of s) gives roles) fits }

pub put_role_lines-requires-clause-within : goal.put_role_lines-requires-clause-within
put_role_lines-requires-clause-within c =
    let asked = c.requires.permissions_at in (asked.1, permissions_in_row asked.0, asked.2)

-- there is a place for each permission
pub put_role_lines-requires-clause-room : goal.put_role_lines-requires-clause-room
put_role_lines-requires-clause-room c =
    let a = c.args in
    fits_as (sym (ap (λ (n : ℕ). role_lines a.gives.now n a.roles) c.requires.permissions_at.0.names.total))
    (room_behind (behind_heading a.s.now a.gives.now a.roles c.requires.roles_in_bounds
    c.put_role_heading-lines.ensures))

pub returns : goal.returns
returns c =
    let a = c.args in
    written_as (sym (roles_parts (sheet_of a.s.now) a.gives.now a.roles))
    (then_written (behind_heading a.s.now a.gives.now a.roles c.requires.roles_in_bounds
    c.put_role_heading-lines.ensures)
    (written_as (ap (λ (n : ℕ). role_lines a.gives.now n a.roles) c.requires.permissions_at.0.names.total)
    c.put_role_lines.ensures))
