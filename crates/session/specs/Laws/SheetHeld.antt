-- A session with an accepted sheet: its rows show the sheet, which has few enough grants. So what there is to find of
-- the sheet can be found from them. And what makes a session one that came from the calls, with its sheet reduced or
-- not.
use Rattle.std.specs.Prelude.{◌≤◌, ◌≡◌, false, length}
use Rattle.std.proofs.Math.Bool.{So}
use Rattle.spec.specs.Limits.{grant_limit}
use Rattle.spec.specs.Sheet.{sheet_of, grants}
use Rattle.bits.specs.Truth.{not_both}
use Rattle.rules.specs.AcceptedFacts.{Lawful, accepted_lawful}
use Rattle.cell_rows.specs.CellPlaces.{Shown, Shows}
use Rattle.cells.specs.Laws.CellLawful.{lawful_shown, lawful_shows}
use Rattle.preparing.specs.NothingPrepared.{nothing_prepared}
use Rattle.session.specs.CodeSession.{text_in, HoldsSheet, Holds, no_position, Sound}
use Rattle.session.specs.declared.Session.{Session as CodeSession}

module _ {s : CodeSession} (h : HoldsSheet s) where
  lawful_held : Lawful (sheet_of (text_in s))
  lawful_held = accepted_lawful (text_in s) h.laid.accepts

  pub few_grants_held : length (grants (sheet_of (text_in s))) ≤ grant_limit
  few_grants_held = lawful_held.few_grants

  pub shown_held : Shown s.rows s.layout.users (sheet_of (text_in s))
  shown_held = rw h.laid.user_total (lawful_shown lawful_held h.cells.rows)

  pub shows_held : Shows s.rows s.layout.users
  shows_held = rw h.laid.user_total (lawful_shows lawful_held h.cells.rows)

pub reduced_sound : {s : CodeSession} → Holds s → So s.reduced → Sound s
reduced_sound h r =
    record { sheet = λ accepts. h.sheet; held = λ reduced. h; unreduced = λ fails. absurd (not_both r fails) }

pub unreduced_sound : {s : CodeSession} → (So s.loaded → HoldsSheet s) → s.reduced ≡ false
    → s.prepared ≡ nothing_prepared → s.position ≡ no_position → Sound s
unreduced_sound sheet fails prepared position =
    record {
      sheet = sheet;
      held = λ reduced. absurd (not_both reduced fails);
      unreduced = λ _. record { prepared = prepared; position = position };
    }
