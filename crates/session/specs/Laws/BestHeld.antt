-- The best placement of a session whose sheet is reduced: where the kernel can be searched it is the position's, and else the
-- first cover, which no search changes. Its classes are counted in the position, and with it the arrays that the
-- session keeps are what the sheet's roles are found from.
use Rattle.std.specs.Prelude.{ℕ, ◌≤◌, ◌<◌, ◌≡◌, List, length, take}
use Rattle.std.proofs.Common.{arith, sym, ap, ◌∙◌, ⊎_elim, lt-ltb, le-ltb}
use Rattle.std.proofs.lemmas.Bool.{lt-leb}
use Rattle.spec.specs.Limits.{permission_limit, grant_limit, search_limit}
use Rattle.spec.specs.Sheet.{sheet_of}
use Rattle.spec.specs.Cover.{first_best}
use Rattle.spec.specs.Machine.{State}
use Rattle.spec.specs.Roles.{roles_of, role_count, start_of}
use Rattle.bits.specs.Laws.Below.{below_or_from}
use Rattle.lists.specs.LatestFirst.{latest_first}
use Rattle.cell_rows.specs.Rows.{row_bits}
use Rattle.rules.specs.AcceptedFacts.{accepted_lawful}
use Rattle.cover.specs.CoverPlaced.{Placed}
use Rattle.roles.specs.RolesInput.{Belongs}
use Rattle.roles.specs.Laws.ReducedBelongs.{reduced_belongs}
use Rattle.blocks.specs.Laws.Laid.{few_users}
use Rattle.cell_rows.specs.Laws.Width.{permissions_fit}
use Rattle.session.specs.CodeSession.{text_in, size_in, state_in, Holds}
use Rattle.kept.specs.BestOf.{best_classes}
use Rattle.session.specs.Laws.MovedOn.{state_within}
use Rattle.session.specs.Laws.CountsHeld.{roles_held, few_roles_held}
use Rattle.session.specs.declared.Session.{Session as CodeSession}

-- the state is the start where the kernel is too great to be searched, and its best placement is the first cover
best_above : (s : CodeSession) → search_limit < size_in s → (state_in s).best ≡ first_best (sheet_of (text_in s))
unfolding start_of
best_above s l = rw (lt-leb (size_in s) search_limit l)

-- the classes of the best placement
abbrev pub best_in : CodeSession → List ℕ
best_in s = best_classes s.prepared.first.classes s.position.best (size_in s)

-- the sheet's roles are found from these parts of what the session keeps, with these classes
abbrev pub PartsBelong : CodeSession → List ℕ → Type 0
PartsBelong s classes =
    Belongs s.rows s.layout.users (take (size_in s) s.prepared.kernel.cells) classes
    s.position.cursor.count (take s.prepared.reduced.count s.prepared.reduced.removed)
    (take s.prepared.reduced.count s.prepared.reduced.partner) (sheet_of (text_in s)) (state_in s).best

module _ {s : CodeSession} (h : Holds s) where
  -- it is the best placement of the sheet where the search stands
  best_held : Placed (state_in s).best (best_in s) (size_in s) s.position.cursor.count
  best_held = record { so_far = ⊎_elim above within (below_or_from search_limit (size_in s)); in_use = h.counted }
    where
      above : search_limit < size_in s → latest_first (best_in s) (size_in s) ≡ (state_in s).best
      above l = rw (lt-ltb search_limit (size_in s) l) (h.prepared.first.so_far ∙ sym (best_above s l))

      within : size_in s ≤ search_limit → latest_first (best_in s) (size_in s) ≡ (state_in s).best
      within l = rw (le-ltb search_limit (size_in s) l) (sym (ap (λ (st : State). st.best) (state_within s l)))

  -- no more classes than roles
  few_classes : s.position.cursor.count ≤ grant_limit
  unfolding permission_limit grant_limit
  few_classes = omega (arith, few_roles_held h)

  few_roles : (roles_of (sheet_of (text_in s)) (state_in s).best).count ≤ row_bits
  unfolding role_count
  few_roles = omega (arith, roles_held h, few_roles_held h, permissions_fit)

  module _ (best : length s.position.best ≡ search_limit) where
    -- the array has a class for each grant of the kernel
    pub best_room : size_in s ≤ length (best_in s)
    best_room = ⊎_elim above within (below_or_from search_limit (size_in s))
      where
        above : search_limit < size_in s → size_in s ≤ length (best_in s)
        above l = rw (lt-ltb search_limit (size_in s) l, h.prepared.first_room) h.prepared.listed.few

        within : size_in s ≤ search_limit → size_in s ≤ length (best_in s)
        within l = rw (le-ltb search_limit (size_in s) l, best) l

    pub best_belongs : PartsBelong s (take (size_in s) (best_in s))
    best_belongs =
        let found = h.prepared in
        reduced_belongs found.shown (few_users h.sheet.laid)
        (accepted_lawful (text_in s) h.sheet.laid.accepts).few_grants
        s.prepared.reduced s.prepared.kernel found.reduced found.listed found.room best_held
        best_room few_classes few_roles
