-- Where there is a book as it is owed, no cause applies but perhaps the buffer's. Both sheets keep the rules, so no
-- cause of a sheet applies; the line is one line; the given book is right, so no cause of a book applies. The longer
-- sheet keeps the rules too, so the newcomer's name is not taken and there is room for a user more; and the new book is
-- right, so there is room for its roles.
use Rattle.std.specs.Prelude.{ℕ, suc, ◌≤◌, ◌≡◌, refl, Bool, true, false, ◌&&◌, ◌||◌, cond, leb, length}
use Rattle.std.proofs.Common.{arith, sym, ◌∙◌, length-append}
use Rattle.std.proofs.Math.Path.{ap}
use mathlib.Core.List.Memᴰ
use mathlib.Core.List.{List, [], ◌∷◌, ◌++◌}
use borrow.Author.Tests.{eqb-true, lt-leb}
use Rattle.std.proofs.Math.ListN.{get_or-append}
use Rattle.std.proofs.Math.Seq.{get_or-append_seam}
use Rattle.spec.specs.Vocabulary.{empty}
use Rattle.spec.specs.Limits.{user_limit, role_limit}
use Rattle.spec.specs.Text.{Bytes, lowered}
use Rattle.spec.specs.Sheet.{Sheet, user_name}
use Rattle.spec.specs.Rules.{Names, Keeps}
use Rattle.spec.specs.Form.{known, number_among}
use Rattle.spec.specs.Refusal.{bad_bytes, sheet_causes, refusal, book_causes}
use Rattle.spec.specs.Newcomer.{Admission, longer, given_sheet, longer_sheet, newcomer, some_left_over, said_given}
use Rattle.spec.specs.Newcomer.{feed_before_end, longer_causes, name_taken, users_at_limit, too_many_roles}
use Rattle.spec.specs.Newcomer.{said_admitting}
use Rattle.spec.specs.Admitted.{Admitted}
use Rattle.bits.specs.Truth.{fails_unless, or_fails}
use Rattle.text.specs.Laws.Text.{Field}
use Rattle.rules.specs.CauseLaws.{NoneApplies, zero_none_applies, sheet_causes_positive}
use Rattle.rules.specs.Accepted.{accepts_sheets}
use Rattle.rules.specs.AcceptedFacts.{name_field}
use Rattle.right.specs.NameLaws.{known_stands}
use Rattle.right.specs.Verdict.{passes_none_applies}
use Rattle.right.specs.Exact.{keeps_good, right_passes}
use Rattle.admitted.specs.RolesAdmitting.{count_admitting}
use Rattle.admitted.specs.AdmittedBook.{newcomer_is_last, made_says_owed}
use Rattle.admitted.specs.LineWritten.{written_line_some, written_line_ends_once}

-- ---- the sheets

-- to a sheet that keeps the rules no cause applies
kept_none_applies : (text : Bytes) (sheet : Sheet) → Keeps text sheet → NoneApplies (sheet_causes text)
unfolding refusal
kept_none_applies text sheet kept =
    zero_none_applies (sheet_causes text) (sheet_causes_positive text)
    (eqb-true (refusal text) 0 ((accepts_sheets text).1 (sheet, kept)))

-- the causes of the longer sheet are among those of any sheet, but for a line that is none
longer_none_applies : (sheet line : Bytes) → NoneApplies (sheet_causes (sheet ++ line)) → empty line ≡ false
    → feed_before_end line ≡ false → NoneApplies (longer_causes sheet line)
unfolding sheet_causes longer_causes
longer_none_applies sheet line none some once = (
  none.0,
  (
    or_fails (bad_bytes (sheet ++ line) || empty line) (feed_before_end line)
        (or_fails (bad_bytes (sheet ++ line)) (empty line) none.1.0 some) once,
    (
      none.1.1.1.1.0,
      (none.1.1.1.1.1.0, (none.1.1.1.1.1.1.0, (none.1.1.1.1.1.1.1.1.0, tt))),
    ),
  ),
)

-- ---- the newcomer's name

-- a name that stands behind others, where no two are equal, is not known among them
last_is_unknown : (names : List Bytes) (name : Bytes) → Names (names ++ name ∷ []) → known names name ≡ false
last_is_unknown names name apart =
    fails_unless (known names name) (λ e.
    let at = known_stands names name e in
    let place : ℕ = number_among names name in
    apart.distinct place (length names) at.within (omega (arith, length-append names (name ∷ [])))
    (ap lowered (get_or-append names (name ∷ []) [] place at.within) ∙ at.there
    ∙ ap lowered (sym (get_or-append_seam names name [] []))))

-- ---- the roles

room_for_roles : (new : Bool) (roles limit : ℕ) → cond new (suc roles) roles ≤ limit → (new && leb limit roles) ≡ false
room_for_roles true roles limit few = lt-leb limit roles few
room_for_roles false roles limit few = refl

module _ (lent : Admission) (result : Bytes) (owed : Admitted lent result) where
  names_apart : Names ((given_sheet lent).users ++ owed.name ∷ [])
  names_apart = rw owed.longer_is at owed.longer_kept.user_names

  pub given_none_applies : NoneApplies (sheet_causes lent.sheet)
  given_none_applies = kept_none_applies lent.sheet (given_sheet lent) owed.given_kept

  pub line_none_applies : NoneApplies (longer_causes lent.sheet lent.line)
  line_none_applies =
      longer_none_applies lent.sheet lent.line
      (kept_none_applies (longer lent) (longer_sheet lent) owed.longer_kept)
      (rw owed.line_written (written_line_some owed.name owed.row))
      (rw owed.line_written (written_line_ends_once owed.name owed.row named))
    where
      named : Field owed.name
      named =
          name_field owed.name
          (names_apart.each owed.name (Memᴰ.append_right (given_sheet lent).users (Memᴰ.head refl)))

  pub book_none_applies : NoneApplies (book_causes (given_sheet lent) lent.book)
  book_none_applies =
      passes_none_applies (given_sheet lent) lent.book
      (right_passes (given_sheet lent) (keeps_good owed.given_kept) lent.book owed.before owed.given_right)

  pub name_is_free : name_taken lent ≡ false
  unfolding name_taken
  name_is_free =
      ap (known (given_sheet lent).users) newcomers_name
      ∙ last_is_unknown (given_sheet lent).users owed.name names_apart
    where
      newcomers_name : user_name (longer_sheet lent) (newcomer lent) ≡ owed.name
      newcomers_name =
          ap (λ (sheet : Sheet). user_name sheet (newcomer lent)) owed.longer_is
          ∙ get_or-append_seam (given_sheet lent).users owed.name [] []

  pub room_for_a_user : users_at_limit lent ≡ false
  unfolding users_at_limit user_limit
  room_for_a_user =
      let last = newcomer_is_last lent result owed in
      lt-leb user_limit (newcomer lent) (omega (arith, owed.longer_kept.few_users))

  pub room_for_a_role : too_many_roles lent ≡ false
  unfolding too_many_roles role_limit said_admitting
  room_for_a_role =
      room_for_roles (some_left_over (longer_sheet lent) (newcomer lent) (said_given lent).roles)
      (said_given lent).roles.count role_limit
      (rw (← count_admitting (longer_sheet lent) (newcomer lent) (said_given lent).roles)
      (rw (made_says_owed lent result owed).roles owed.right.of_form.few_roles))
