-- The book of a session whose sheet is reduced, from what the session keeps: the witness's cells, listed, are cells of
-- the sheet, its roles have places in the rows of words, and what is written of its counts, its roles and its witness
-- is the book of the sheet where the search stands.
use Rattle.std.specs.Prelude.{ℕ, ◌*◌, ◌/◌, ◌%◌, ◌≤◌, ◌<◌, ◌≡◌, length, get_or, take}
use Rattle.std.proofs.Common.{arith, sym, subst, ◌∙◌, length-take}
use Rattle.std.proofs.Math.Bool.{So}
use mathlib.Core.List.{List, [], Memᴰ}
use Rattle.spec.specs.Limits.{user_limit, role_limit}
use Rattle.spec.specs.Sheet.{Sheet, sheet_of, user_count, permission_count, holds}
use Rattle.spec.specs.Roles.{roles_of, role_count}
use Rattle.spec.specs.Book.{book}
use Rattle.lists.specs.TestLaws.{member_at}
use Rattle.lists.specs.PassingBelow.{passing_only}
use Rattle.rules.specs.AcceptedFacts.{Lawful, accepted_lawful}
use Rattle.cell_rows.specs.Rows.{row_bits}
use Rattle.cell_rows.specs.CellPlaces.{grant_of, marked, Shown, Part}
use Rattle.cells.specs.Laws.Grant.{yes_within}
use Rattle.cells.specs.Laws.CellList.{marked_holds}
use Rattle.cells.specs.KernelArray.{Roomy, Listed, shown_roomy, listed_grants}
use Rattle.product.specs.RoleRows.{RolesAt}
use Rattle.book_length.specs.BookRows.{rows_book, rows_book_in}
use Rattle.blocks.specs.Laws.Laid.{few_users, laid_permissions_fit}
use Rattle.book_lines.specs.RowsSaid.{CellsWithin}
use Rattle.book_lines.specs.declared.counts.Counts.{Counts}
use Rattle.session.specs.CodeSession.{text_in, state_in, Holds}
use Rattle.session.specs.Laws.Counted.{CountsIn}
use Rattle.session.specs.Laws.CountsHeld.{roles_held, few_roles_held}
use Rattle.session.specs.declared.Session.{Session as CodeSession}

-- the listed cells of a set of grants are cells of the sheet
module _ {rows left cells : List ℕ} {users size : ℕ} {sheet : Sheet} (lawful : Lawful sheet)
    (total : users ≡ user_count sheet) (shown : Shown rows users sheet) (part : Part left rows)
    (listed : Listed left users cells size) where
  listed_held : (i : ℕ) → i < length (take size cells)
      → So (holds sheet (get_or (take size cells) i 0 / row_bits) (get_or (take size cells) i 0 % row_bits))
  listed_held i l =
      let n : ℕ = get_or (take size cells) i 0 in
      sym (marked_holds shown n)
      ∙ part.held n (passing_only (users * row_bits) (marked left)
      (subst (Memᴰ n) listed.in_order (member_at (take size cells) i 0 l))).holds

  user_within : (i : ℕ) → i < length (take size cells) → (grant_of (get_or (take size cells) i 0)).user < user_count sheet
  user_within i l = omega (arith, shown.few _ _ (listed_held i l))

  pub listed_within : CellsWithin (take size cells) sheet
  listed_within = record {
    few = omega (arith, length-take size cells, listed.few);
    user_below = user_within;
    permission_below = λ i l. omega (
      arith,
      yes_within (get_or sheet.rows (grant_of (get_or (take size cells) i 0)).user []) (listed_held i l),
      lawful.a_cell_each _ (user_within i l),
    );
  }

module _ {s : CodeSession} (h : Holds s) where
  lawful_held : Lawful (sheet_of (text_in s))
  lawful_held = accepted_lawful (text_in s) h.sheet.laid.accepts

  room_for_permissions : permission_count (sheet_of (text_in s)) ≤ row_bits
  room_for_permissions = let laid = h.sheet.laid in omega (arith, laid_permissions_fit laid, laid.permission_total)

  -- there is room for a list of the witness
  pub room_for_witness : (s.layout.users ≤ user_limit) × Roomy s.prepared.witness.cells
      (s.layout.users * row_bits)
  room_for_witness = (
    few_users h.sheet.laid,
    shown_roomy h.prepared.shown h.prepared.witness.part lawful_held.few_grants,
  )

  module _ {cells : List ℕ} {size : ℕ}
      (listed : Listed s.prepared.witness.cells s.layout.users cells size) where
    -- its cells are cells of the sheet
    pub witness_within : CellsWithin (take size cells) (sheet_of (text_in s))
    witness_within =
        listed_within lawful_held h.sheet.laid.user_total h.prepared.shown h.prepared.witness.part listed

  module _ {counts : Counts} (counted : CountsIn s counts) where
    -- there is a place for each role
    pub room_for_roles : counts.roles ≤ role_limit
    unfolding role_limit
    room_for_roles = omega (arith, counted.roles, roles_held h, few_roles_held h)

    -- what is written is the book
    pub book_held : {has gives cells : List ℕ} {count size : ℕ}
        → RolesAt has gives count s.layout.users (roles_of (sheet_of (text_in s)) (state_in s).best)
        → Listed s.prepared.witness.cells s.layout.users cells size
        → rows_book (text_in s) has gives (take size cells) counts ≡ book (sheet_of (text_in s)) (state_in s)
    unfolding role_count
    book_held {cells = cells} {size = size} at listed =
        rows_book_in (text_in s) (take size cells) counts (state_in s)
        (record { rows = rw h.sheet.laid.user_total at at.rows; total = counted.roles })
        room_for_permissions counted.bound counted.standing
        (listed_grants h.prepared.shown h.prepared.witness.part listed ∙ h.prepared.witness.in_order)
