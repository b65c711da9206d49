-- Request [6] of document 02: a newcomer in an existing book. Lent are a sheet, a book for it, one user line with its
-- line feed, and a buffer for the new book; there is no session. The newcomer is the last user of the longer sheet.
use Rattle.std.specs.Prelude.{◌≡◌, ◌&&◌, ◌||◌, ◌∷◌, ◌++◌}
use Rattle.spec.specs.Vocabulary.{ℕ, suc, Bool, false, not, cond, List, [], eqb}
use Rattle.spec.specs.Vocabulary.{leb, ltb, length, drop, implies, every_below, empty, any}
use Rattle.spec.specs.Limits.{user_limit, role_limit}
use Rattle.spec.specs.Text.{Bytes, line_feed, lower, lines_of}
use Rattle.spec.specs.Sheet.{Sheet, sheet_of, user_count, permission_count, user_name, holds}
use Rattle.spec.specs.RoleSet.{RoleSet, roles_1_to}
use Rattle.spec.specs.Roles.{unsettled}
use Rattle.spec.specs.Book.{Said, book_text}
use Rattle.spec.specs.Form.{known, said}
use Rattle.spec.specs.Refusal.{Cause, first_number, too_long, bad_bytes, bad_name, uneven_line, bad_cell}
use Rattle.spec.specs.Refusal.{too_many_grants, sheet_causes, book_causes}
use Rattle.spec.specs.Calls.{WriteAnswer, write_refused}

-- what is lent: the buffer apart
pub record Admission : Type 0 where
  pub sheet : Bytes
  pub book : Bytes
  pub line : Bytes

-- the sheet with the line added: "the line goes last in the sheet"
abbrev pub longer : Admission → Bytes
longer lent = lent.sheet ++ lent.line

-- the given sheet, and the longer one
abbrev pub given_sheet : Admission → Sheet
given_sheet lent = sheet_of lent.sheet

abbrev pub longer_sheet : Admission → Sheet
longer_sheet lent = sheet_of (longer lent)

-- the newcomer's number in the longer sheet: the one after those of the given sheet's users
abbrev pub newcomer : Admission → ℕ
newcomer lent = user_count (given_sheet lent)

-- ---- the roles

-- the newcomer, user u of a sheet, holds all permissions of role r
abbrev pub gets : Sheet → ℕ → RoleSet → ℕ → Bool
gets sheet u roles r = every_below (permission_count sheet) (λ p. implies (roles.gives r p) (holds sheet u p))

-- permission p is left over: the newcomer holds it, and none of those roles does
abbrev pub left_over : Sheet → ℕ → RoleSet → ℕ → Bool
left_over sheet u roles p =
    holds sheet u p && not (any (λ r. gets sheet u roles r && roles.gives r p) (roles_1_to roles.count))

-- permissions are left over
unfoldable pub some_left_over : Sheet → ℕ → RoleSet → Bool
some_left_over sheet u roles = not (every_below (permission_count sheet) (λ p. not (left_over sheet u roles p)))

-- the newcomer gets each role whose permissions they all hold. If permissions are left over, one new role, the last
-- one, holds exactly those, and only the newcomer has it. Earlier users have the roles that they had, and earlier
-- roles the permissions
unfoldable pub roles_admitting : Sheet → ℕ → RoleSet → RoleSet
roles_admitting sheet u roles =
    record {
      count = cond (some_left_over sheet u roles) (suc roles.count) roles.count;
      has = λ v r. cond (ltb r roles.count) (cond (eqb v u) (gets sheet u roles r) (roles.has v r)) (eqb v u);
      gives = λ r p. cond (ltb r roles.count) (roles.gives r p) (left_over sheet u roles p);
    }

-- what the new book says: the witness is kept in its order; with no new role the state word and bound are kept, with
-- one the state is `open` and the bound is the witness count
unfoldable pub said_admitting : Sheet → ℕ → Said → Said
unfolding some_left_over roles_admitting
said_admitting sheet u says =
    let new : Bool = some_left_over sheet u says.roles in
    let roles : RoleSet = roles_admitting sheet u says.roles in
    record {
      count = roles.count;
      bound = cond new (length says.witness) says.bound;
      standing = cond new unsettled says.standing;
      roles = roles;
      witness = says.witness;
    }

-- what the given book says
unfoldable pub said_given : Admission → Said
unfolding said sheet_of
said_given lent = said (given_sheet lent) lent.book

-- the new book, of the longer sheet: all names spelled as in the sheet, the newcomer's as in the line
unfoldable pub new_book : Admission → Bytes
unfolding book_text said_admitting said_given
new_book lent = book_text (longer_sheet lent) (said_admitting (longer_sheet lent) (newcomer lent) (said_given lent))

-- ---- the causes

-- a line feed stands anywhere but at the end
abbrev pub feed_before_end : Bytes → Bool
feed_before_end [] = false
feed_before_end (b ∷ []) = false
feed_before_end (b ∷ next ∷ rest) = eqb b line_feed || feed_before_end (next ∷ rest)

-- the longer sheet is judged by 1 to 9 "without too many users and without a clash with the newcomer's name", which are
-- 4 and 8: 18 and 17 say them. That there is a user, that no other two names clash, and 3 were judged of the given
-- sheet. A line of no bytes, or with a line feed anywhere but at its end, is a 2
unfoldable pub longer_causes : Bytes → Bytes → List Cause
unfolding too_long bad_bytes bad_name uneven_line bad_cell too_many_grants sheet_of
longer_causes sheet line =
    let text : Bytes = sheet ++ line in
    record { number = 1; applies = too_long text }
    ∷ record { number = 2; applies = bad_bytes text || empty line || feed_before_end line }
    ∷ record { number = 5; applies = bad_name (sheet_of text) }
    ∷ record { number = 6; applies = uneven_line (lines_of text) }
    ∷ record { number = 7; applies = bad_cell (lines_of text) }
    ∷ record { number = 9; applies = too_many_grants (sheet_of text) }
    ∷ []

-- 17: the name is taken, `A-Z` read as `a-z`
unfoldable pub name_taken : Admission → Bool
unfolding lower sheet_of
name_taken lent = known (given_sheet lent).users (user_name (longer_sheet lent) (newcomer lent))

-- 18: there are 256 users already
unfoldable pub users_at_limit : Admission → Bool
unfolding user_limit sheet_of
users_at_limit lent = leb user_limit (user_count (given_sheet lent))

-- 19: a new role would be number 129
unfoldable pub too_many_roles : Admission → Bool
unfolding role_limit said_given some_left_over
too_many_roles lent =
    some_left_over (longer_sheet lent) (newcomer lent) (said_given lent).roles
    && leb role_limit (said_given lent).roles.count

-- the sheet by 1 to 9, then the longer sheet, then the book for the given sheet by 12 to 15; after these come 17, 18,
-- 19, and last 11 for the result's buffer
unfoldable pub newcomer_causes : Admission → Bytes → List Cause
unfolding sheet_causes longer_causes book_causes name_taken users_at_limit too_many_roles new_book sheet_of
newcomer_causes lent buffer =
    sheet_causes lent.sheet
    ++ longer_causes lent.sheet lent.line
    ++ book_causes (given_sheet lent) lent.book
    ++ record { number = 17; applies = name_taken lent }
    ∷ record { number = 18; applies = users_at_limit lent }
    ∷ record { number = 19; applies = too_many_roles lent }
    ∷ record { number = 11; applies = ltb (length buffer) (length (new_book lent)) }
    ∷ []

-- ---- the call

-- it answers its byte count, as a writing does; or a number, and counts 0
unfoldable pub newcomer_answer : Admission → Bytes → WriteAnswer
newcomer_answer lent buffer =
    let number : ℕ = first_number (newcomer_causes lent buffer) in
    cond (eqb number 0) (record { number = 0; count = length (new_book lent) }) (write_refused number)

-- the lent buffer after it: the new book, and past it the buffer's own bytes; untouched by a refusal
unfoldable pub buffer_admitting : Admission → Bytes → Bytes
buffer_admitting lent buffer =
    let written : Bytes = new_book lent ++ drop (length (new_book lent)) buffer in
    cond (eqb (first_number (newcomer_causes lent buffer)) 0) written buffer

-- what the call promises: its answer and the lent buffer after it
pub record Admits (lent : Admission) (before : Bytes) (answer : WriteAnswer) (after : Bytes) : Type 0 where
  pub answers : answer ≡ newcomer_answer lent before
  pub fills : after ≡ buffer_admitting lent before
