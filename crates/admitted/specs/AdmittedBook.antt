-- Where there is a book as it is owed, it is the one that the call writes. It says what the call makes of whatever the
-- given book is taken to say; the checker reads the given book as just that; and what says the same is the same text.
use Rattle.std.specs.Prelude.{suc, ◌≡◌, [], ◌∷◌}
use Rattle.std.proofs.Common.{arith, ap, ◌∙◌, length-append}
use Rattle.spec.specs.Text.{Bytes}
use Rattle.spec.specs.Sheet.{user_count, permission_count}
use Rattle.spec.specs.Newcomer.{Admission, given_sheet, longer_sheet, newcomer, said_admitting, said_given, new_book}
use Rattle.spec.specs.Admitted.{Admitted}
use Rattle.right.specs.ReadBack.{SaysSame}
use Rattle.right.specs.Exact.{keeps_good, right_read}
use Rattle.admitted.specs.SameText.{same_said_same_text}
use Rattle.admitted.specs.SameSaid.{says_same_sym, says_same_trans}
use Rattle.admitted.specs.SameAdmitting.{same_admitting}
use Rattle.admitted.specs.Pinned.{Pinned, pinned_says}

module _ (lent : Admission) (result : Bytes) (owed : Admitted lent result) where
  -- the newcomer is the last user of the longer sheet
  pub newcomer_is_last : user_count (longer_sheet lent) ≡ suc (newcomer lent)
  newcomer_is_last =
      ap user_count owed.longer_is ∙ length-append (given_sheet lent).users (owed.name ∷ []) ∙ omega arith

  pinned : Pinned (longer_sheet lent) (newcomer lent) owed.before owed.after
  pinned =
      record {
        last_user = newcomer_is_last;
        counted = owed.right.counts.roles;
        same_roles = owed.same_roles;
        same_permissions = owed.same_permissions;
        same_witness = owed.same_witness;
        theirs = owed.theirs;
        new_role = owed.new_role;
      }

  -- the checker reads the given book as what it says
  pub given_read : SaysSame (given_sheet lent) (said_given lent) owed.before
  unfolding said_given
  given_read =
      right_read (given_sheet lent) (keeps_good owed.given_kept) lent.book owed.before owed.given_right

  -- what the call makes of what it read is what the owed book says
  pub made_says_owed : SaysSame (longer_sheet lent)
      (said_admitting (longer_sheet lent) (newcomer lent) (said_given lent)) owed.after
  made_says_owed =
      says_same_trans (longer_sheet lent) (said_admitting (longer_sheet lent) (newcomer lent) (said_given lent))
      (said_admitting (longer_sheet lent) (newcomer lent) owed.before) owed.after
      (same_admitting (given_sheet lent) (longer_sheet lent) (ap permission_count owed.longer_is) newcomer_is_last
      (said_given lent) owed.before given_read)
      (says_same_sym (longer_sheet lent) owed.after
      (said_admitting (longer_sheet lent) (newcomer lent) owed.before)
      (pinned_says (longer_sheet lent) (newcomer lent) owed.before owed.after pinned))

  -- so the two are the same bytes
  pub owed_is_new_book : result ≡ new_book lent
  unfolding new_book
  owed_is_new_book =
      owed.written
      ∙ same_said_same_text (longer_sheet lent) owed.after
      (said_admitting (longer_sheet lent) (newcomer lent) (said_given lent))
      (says_same_sym (longer_sheet lent) (said_admitting (longer_sheet lent) (newcomer lent) (said_given lent))
      owed.after made_says_owed)
