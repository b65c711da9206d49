-- "The sheet": what a sheet's bytes say: the users, the permissions, who holds what, and the grants in order. Users
-- and permissions are numbered from 0 in sheet order.
use Rattle.std.specs.Prelude.{◌&&◌, ◌||◌, ◌∷◌, ◌++◌}
use Rattle.spec.specs.Vocabulary.{ℕ, suc, Bool, true, false, List, [], map, tail, eqb}
use Rattle.spec.specs.Vocabulary.{length, get_or, keep}
use Rattle.spec.specs.Text.{Bytes, Line, ascii, same_bytes, lines_of}

-- what a sheet says (user-permission assignment)
pub record Sheet : Type 0 where
  pub users : List Bytes
  pub permissions : List Bytes
  pub rows : List (List Bool)

-- the first field of a line; what is missing is empty, and a missing cell says no: causes 3 to 6 speak of what is
-- missing
abbrev pub first_field : Line → Bytes
first_field line = get_or line 0 []

-- the first line of some lines
abbrev pub first_line : List Line → Line
first_line lines = get_or lines 0 []

-- a field that says yes
abbrev pub is_one : Bytes → Bool
is_one field = same_bytes field (ascii "1")

-- a field is `0` or `1`
abbrev pub is_bit : Bytes → Bool
is_bit field = same_bytes field (ascii "0") || is_one field

-- a cell as sheets and books spell it
abbrev pub cell_text : Bool → Bytes
cell_text true = ascii "1"
cell_text false = ascii "0"

-- the first line is `user`, then the permission names; each later line is a user name, then `0` or `1` for each
-- permission
unfoldable pub sheet_of_lines : List Line → Sheet
sheet_of_lines lines =
    record {
      users = map first_field (tail lines);
      permissions = tail (first_line lines);
      rows = map (λ line. map is_one (tail line)) (tail lines);
    }

-- the sheet that these bytes say
unfoldable pub sheet_of : Bytes → Sheet
unfolding sheet_of_lines
sheet_of text = sheet_of_lines (lines_of text)

abbrev pub user_count : Sheet → ℕ
user_count sheet = length sheet.users

abbrev pub permission_count : Sheet → ℕ
permission_count sheet = length sheet.permissions

-- the names of users and permissions by number
abbrev pub user_name : Sheet → ℕ → Bytes
user_name sheet u = get_or sheet.users u []

abbrev pub permission_name : Sheet → ℕ → Bytes
permission_name sheet p = get_or sheet.permissions p []

-- user u holds permission p
abbrev pub holds : Sheet → ℕ → ℕ → Bool
holds sheet u p = get_or (get_or sheet.rows u []) p false

-- a grant (edge): user and permission number of a cell that says yes
pub record Grant : Type 0 where
  pub user : ℕ
  pub permission : ℕ

-- the grant is held
abbrev pub held : Sheet → Grant → Bool
held sheet g = holds sheet g.user g.permission

-- two grants are one
abbrev pub same_grant : Grant → Grant → Bool
same_grant g h = eqb g.user h.user && eqb g.permission h.permission

-- the grants of user u, from permission p on
abbrev pub grants_of_row : ℕ → ℕ → List Bool → List Grant
grants_of_row u p [] = []
grants_of_row u p (cell ∷ row) = keep cell (record { user = u; permission = p }) (grants_of_row u (suc p) row)

-- the grants of the users from u on
abbrev pub grants_of_rows : ℕ → List (List Bool) → List Grant
grants_of_rows u [] = []
grants_of_rows u (row ∷ rows) = grants_of_row u 0 row ++ grants_of_rows (suc u) rows

-- the grants (the ones) by user, then permission: a grant's number is its place in this list
abbrev pub grants : Sheet → List Grant
grants sheet = grants_of_rows 0 sheet.rows
