-- "Refused, and how": the causes of the paper's table and those of document 02, for each call a list in the order in
-- which they are judged, and the first number that applies. Each cause looks at the whole text, whatever the others
-- say.
use Rattle.std.specs.Prelude.{◌&&◌, ◌||◌, ◌∷◌, ◌++◌}
use Rattle.spec.specs.Vocabulary.{ℕ, suc, Bool, true, false, not, Bool·beq, List, []}
use Rattle.spec.specs.Vocabulary.{tail, eqb, ltb, length, every_below, empty, any, all, repeats}
use Rattle.spec.specs.Limits.{sheet_limit, permission_limit, user_limit, name_limit, grant_limit, book_limit}
use Rattle.spec.specs.Text.{Bytes, Line, ascii, same_bytes, between, last_byte, line_feed, allowed_byte}
use Rattle.spec.specs.Text.{lower, same_name, lines_of}
use Rattle.spec.specs.Sheet.{Sheet, Grant, first_field, first_line, is_bit, sheet_of, user_count}
use Rattle.spec.specs.Sheet.{permission_count, holds, held, grants}
use Rattle.spec.specs.Fit.{fits}
use Rattle.spec.specs.RoleSet.{RoleSet, product}
use Rattle.spec.specs.Roles.{Standing, witnessed, searched, unsettled}
use Rattle.spec.specs.Book.{Said}
use Rattle.spec.specs.Form.{form, said}
use Rattle.spec.specs.Session.{Session, no_sheet, read, reduced, session_book}

-- a cause of refusal: its number, and whether it applies
pub record Cause : Type 0 where
  pub number : ℕ
  pub applies : Bool

-- the number, where the cause applies, else what comes later
abbrev pub refuse_if : Bool → ℕ → ℕ → ℕ
refuse_if true number later = number
refuse_if false number later = later

-- the number of the first cause of a list that applies, and 0 where none does
abbrev pub first_number : List Cause → ℕ
first_number [] = 0
first_number (cause ∷ later) = refuse_if cause.applies cause.number (first_number later)

-- 1: sheet above 65,536 bytes
unfoldable pub too_long : Bytes → Bool
unfolding sheet_limit
too_long text = ltb sheet_limit (length text)

-- 2: empty, last byte no line feed, or byte not allowed
unfoldable pub bad_bytes : Bytes → Bool
unfolding allowed_byte
bad_bytes text = empty text || not (eqb (last_byte text) line_feed) || not (all allowed_byte text)

-- 3: first field not `user`, or first line not of 2 to 129 fields
unfoldable pub bad_first_line : List Line → Bool
unfolding permission_limit
bad_first_line lines =
    not
    (same_bytes (first_field (first_line lines)) (ascii "user")
    && between 2 (suc permission_limit) (length (first_line lines)))

-- 4: user lines not 1 to 256
unfoldable pub bad_line_count : List Line → Bool
unfolding user_limit
bad_line_count lines = not (between 1 user_limit (length (tail lines)))

-- a name is of 1 to 16 bytes
unfoldable pub has_name_length : Bytes → Bool
unfolding name_limit
has_name_length name = between 1 name_limit (length name)

-- 5: name not of 1 to 16 bytes
unfoldable pub bad_name : Sheet → Bool
unfolding has_name_length
bad_name sheet = not (all has_name_length sheet.permissions && all has_name_length sheet.users)

-- 6: line with another field count than the first
unfoldable pub uneven_line : List Line → Bool
uneven_line lines = not (all (λ line. eqb (length line) (length (first_line lines))) (tail lines))

-- 7: field after a user name not `0` or `1`
unfoldable pub bad_cell : List Line → Bool
bad_cell lines = not (all (λ line. all is_bit (tail line)) (tail lines))

-- 8: two users or two permissions of one name, `A-Z` read as `a-z`; a user and a permission may share a name
unfoldable pub name_twice : Sheet → Bool
unfolding lower
name_twice sheet = repeats same_name sheet.users || repeats same_name sheet.permissions

-- 9: above 2,048 grants
unfoldable pub too_many_grants : Sheet → Bool
unfolding grant_limit
too_many_grants sheet = ltb grant_limit (length (grants sheet))

-- the causes for which a sheet is refused
unfoldable pub sheet_causes : Bytes → List Cause
unfolding too_long bad_bytes bad_first_line bad_line_count bad_name uneven_line bad_cell name_twice too_many_grants
    sheet_of
sheet_causes text =
    let lines : List Line = lines_of text in
    let sheet : Sheet = sheet_of text in
    record { number = 1; applies = too_long text }
    ∷ record { number = 2; applies = bad_bytes text }
    ∷ record { number = 3; applies = bad_first_line lines }
    ∷ record { number = 4; applies = bad_line_count lines }
    ∷ record { number = 5; applies = bad_name sheet }
    ∷ record { number = 6; applies = uneven_line lines }
    ∷ record { number = 7; applies = bad_cell lines }
    ∷ record { number = 8; applies = name_twice sheet }
    ∷ record { number = 9; applies = too_many_grants sheet }
    ∷ []

-- the first of 1 to 9 that applies to the sheet, and 0 where none does
unfoldable pub refusal : Bytes → ℕ
unfolding sheet_causes
refusal text = first_number (sheet_causes text)

-- a sheet is accepted exactly when none of 1 to 9 applies
abbrev pub accepted : Bytes → Bool
accepted text = eqb (refusal text) 0

-- 10: reduction, search or book with no accepted sheet
abbrev pub lacks_sheet : Session → Bool
lacks_sheet no_sheet = true
lacks_sheet (read text) = false
lacks_sheet (reduced text st) = false

abbrev pub reduce_causes : Session → List Cause
reduce_causes session = record { number = 10; applies = lacks_sheet session } ∷ []

-- 16: search or book on a sheet not yet reduced
abbrev pub not_reduced : Session → Bool
not_reduced no_sheet = false
not_reduced (read text) = true
not_reduced (reduced text st) = false

abbrev pub search_causes : Session → List Cause
search_causes session =
    record { number = 10; applies = lacks_sheet session } ∷ record { number = 16; applies = not_reduced session } ∷ []

-- 11: buffer shorter than the book; 16 is judged after 10 and before 11
unfoldable pub write_causes : Session → Bytes → List Cause
write_causes session buffer =
    record { number = 10; applies = lacks_sheet session }
    ∷ record { number = 16; applies = not_reduced session }
    ∷ record { number = 11; applies = ltb (length buffer) (length (session_book session)) }
    ∷ []

-- `witnessed`, bound = roles = witness lines; `searched`, bound = roles, fewer witness lines; `open`, bound = witness
-- lines, fewer than roles
abbrev pub bound_agrees : Standing → ℕ → ℕ → ℕ → Bool
bound_agrees witnessed bound role_count line_count = eqb bound role_count && eqb role_count line_count
bound_agrees searched bound role_count line_count = eqb bound role_count && ltb line_count role_count
bound_agrees unsettled bound role_count line_count = eqb bound line_count && ltb line_count role_count

-- counts agree if roles is the number of role lines, and the bound agrees with the state word; cause 13 is that they
-- do not
unfoldable pub counts_agree : Said → Bool
counts_agree says =
    eqb says.count says.roles.count
    && bound_agrees says.standing says.bound says.roles.count (length says.witness)

-- the product is the sheet at every cell; cause 14 is that it is not
unfoldable pub product_agrees : Sheet → RoleSet → Bool
unfolding product
product_agrees sheet roles =
    every_below (user_count sheet) (λ u.
    every_below (permission_count sheet) (λ p. Bool·beq (product roles u p) (holds sheet u p)))

-- two on different lines fit, the same one twice included
abbrev pub some_fit : Sheet → List Grant → Bool
some_fit sheet [] = false
some_fit sheet (g ∷ later) = any (fits sheet g) later || some_fit sheet later

-- every witness grant is held, and no two on different lines fit; cause 15 is that this fails
unfoldable pub witness_agrees : Sheet → List Grant → Bool
witness_agrees sheet grants = all (held sheet) grants && not (some_fit sheet grants)

-- 12: book above 131,072 bytes or not of the form, or a witness name unknown; 13: counts disagree; 14: product is not
-- the sheet; 15: witness grant not held, or two on different lines fit (the same one twice included)
unfoldable pub book_causes : Sheet → Bytes → List Cause
unfolding book_limit form said counts_agree product_agrees witness_agrees
book_causes sheet text =
    let says : Said = said sheet text in
    record { number = 12; applies = ltb book_limit (length text) || not (form sheet text) }
    ∷ record { number = 13; applies = not (counts_agree says) }
    ∷ record { number = 14; applies = not (product_agrees sheet says.roles) }
    ∷ record { number = 15; applies = not (witness_agrees sheet says.witness) }
    ∷ []

-- the checker judges the sheet by 1 to 9 first
unfoldable pub check_causes : Bytes → Bytes → List Cause
unfolding sheet_causes book_causes sheet_of
check_causes sheet_bytes book_bytes = sheet_causes sheet_bytes ++ book_causes (sheet_of sheet_bytes) book_bytes
