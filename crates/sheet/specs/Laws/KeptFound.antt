-- The lines of every accepted sheet are found, within all limits and with no name twice. Assumes nothing.
use Rattle.std.specs.Prelude.{◌≤◌, ◌≡◌, not, ◌∷◌, ◌++◌, length, take}
use Rattle.std.proofs.Common.{arith, ap, ◌∙◌, eq-eqb}
use Rattle.std.proofs.Math.Bool.{So}
use Rattle.spec.specs.Vocabulary.{repeats}
use Rattle.spec.specs.Limits.{grant_limit, permission_limit, user_limit}
use Rattle.spec.specs.Text.{ascii, Bytes, line_text, text_of, same_name}
use Rattle.spec.specs.Sheet.{sheet_of}
use Rattle.spec.specs.Rules.{user_lines}
use Rattle.spec.specs.Refusal.{refusal, accepted}
use Rattle.bits.specs.Truth.{and_intro}
use Rattle.text.specs.Laws.Lowered.{apart_names}
use Rattle.names.specs.NamesAt.{all_names}
use Rattle.names.specs.Laws.NamesAt.{placed_names}
use Rattle.rules.specs.SheetLines.{sheet_text_lines}
use Rattle.rules.specs.Accepted.{accepted_keeps}
use Rattle.rules.specs.AcceptedFacts.{accepted_lawful}
use Rattle.sheet.specs.FirstLine.{NamesFit}
use Rattle.sheet.specs.UserLines.{Fit}
use Rattle.sheet.specs.KeptSheet.{Notes, LinesStand, SheetStands}
use Rattle.sheet.specs.Laws.KeptSheet.{noted, users_placed, permissions_placed, noted_grants, noted_users}
use Rattle.sheet.specs.Laws.KeptSheet.{noted_said}
use Rattle.sheet.specs.Laws.KeptRead.{apart}

module _ (text : Bytes) (p : So (accepted text)) where
  pub accepted_names : NamesFit (sheet_of text).permissions
  unfolding permission_limit
  accepted_names =
      let k = accepted_keeps text p in
      record { some_name = k.some_permission; few = k.few_permissions; each = k.permission_names.each }

  pub accepted_text : text ≡ line_text (ascii "user" ∷ (sheet_of text).permissions) ++ text_of
      (user_lines (sheet_of text).users (sheet_of text).rows)
  accepted_text = (accepted_keeps text p).written ∙ sheet_text_lines (sheet_of text)

  pub accepted_fit : Fit (length (sheet_of text).permissions) (sheet_of text).users (sheet_of text).rows
  unfolding user_limit
  accepted_fit =
      let k = accepted_keeps text p in
      record { few = k.few_users; as_many = k.a_row_each; each = k.user_names.each; even = k.even_rows }

  -- what was noted is within the limits
  pub accepted_users : (n : Notes) → LinesStand text n → 1 ≤ n.counts.users
  accepted_users n s =
      omega (
        arith,
        (accepted_lawful text p).some_user,
        ap (λ sheet. length sheet.users) (noted_said text n s),
        noted_users text n s,
      )

  pub accepted_grants : (n : Notes) → LinesStand text n → n.counts.grants ≤ grant_limit
  accepted_grants n s = omega (
    arith,
    rw (noted_said text n s) at (accepted_lawful text p).few_grants,
    noted_grants text n s,
  )

  -- and has no name twice
  pub accepted_apart : (n : Notes) → LinesStand text n → So (apart text n)
  accepted_apart n s =
      let k = accepted_lawful text p in
      and_intro (not (repeats same_name (noted text n).users)) (not (repeats same_name (noted text n).permissions))
      (ap not (rw (noted_said text n s) at (apart_names (sheet_of text).users
      k.user_names.distinct)))
      (ap not (rw (noted_said text n s) at (apart_names (sheet_of text).permissions
      k.permission_names.distinct)))

-- so a sheet whose lines are found is accepted exactly where no name stands twice
module _ (text : Bytes) (n : Notes) (s : SheetStands text n) where
  -- the names at the places are those noted
  pub kept_names : (all_names text (take n.counts.users n.users) ≡ (noted text n).users)
      × (all_names text (take n.counts.permissions n.permissions) ≡ (noted text n).permissions)
  kept_names = (
    placed_names text (take n.counts.users n.users) (noted text n).users (users_placed text n s.stand),
    placed_names text (take n.counts.permissions n.permissions) (noted text n).permissions
        (permissions_placed text n s.stand),
  )

  pub unrefused_apart : refusal text ≡ 0 → So (apart text n)
  unrefused_apart e = accepted_apart text (eq-eqb (refusal text) 0 e) n s.stand
