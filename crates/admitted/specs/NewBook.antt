-- The new book is right for the longer sheet, where no cause applies but the buffer's. The given book is right for the
-- given sheet, since the checker accepts it; the longer sheet is the given one with one user more and is accepted; and
-- what is sound for an accepted sheet is right as it is written.
use Rattle.spec.specs.Book.{Said}
use Rattle.spec.specs.Right.{Right}
use Rattle.spec.specs.Newcomer.{Admission, longer, given_sheet, longer_sheet, newcomer, said_given, said_admitting}
use Rattle.spec.specs.Newcomer.{too_many_roles, new_book}
use Rattle.rules.specs.Accepted.{accepted_keeps}
use Rattle.longer.specs.OneLine.{added_name, added_row}
use Rattle.longer.specs.LongerSheet.{longer_sheet_told}
use Rattle.right.specs.Exact.{reads_books}
use Rattle.right.specs.Confirmed.{sound_is_right}
use Rattle.admitted.specs.OneMoreUser.{OneMore, with_user_is_one_more}
use Rattle.admitted.specs.SaidAdmitting.{new_book_sound}
use Rattle.admitted.specs.NewcomerCauses.{Admissible}

-- what the new book says
abbrev pub said_after : Admission → Said
said_after lent = said_admitting (longer_sheet lent) (newcomer lent) (said_given lent)

module _ (lent : Admission) (admissible : Admissible lent) where
  pub one_more : OneMore (given_sheet lent) (longer_sheet lent)
  one_more =
      rw (longer_sheet_told lent admissible.addable).longer_is
      (with_user_is_one_more (given_sheet lent) (added_name lent.line) (added_row lent.line)
      (accepted_keeps lent.sheet admissible.addable.given).a_row_each)

  pub given_is_right : Right (given_sheet lent) lent.book (said_given lent)
  unfolding said_given
  given_is_right = reads_books lent.sheet lent.book admissible.book_accepted

  pub new_book_right : Right (longer_sheet lent) (new_book lent) (said_after lent)
  unfolding new_book too_many_roles
  new_book_right =
      sound_is_right (longer lent) (longer_sheet_told lent admissible.addable).accepts (said_after lent)
      (new_book_sound one_more lent.book (said_given lent) given_is_right admissible.room_for_a_role)
