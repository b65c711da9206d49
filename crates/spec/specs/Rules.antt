-- "The sheet", its rules, from what a sheet says to its bytes: no reading is involved, and of the tests only `name_byte`
-- and, for equal names, `lower`, both of which the cases compute for every byte.
use Rattle.std.specs.Prelude.{◌≤◌, ◌<◌, ◌≡◌, ◌≢◌, ◌∷◌}
use Rattle.spec.specs.Vocabulary.{ℕ, Bool, So, List, [], map, List-as-Memᴰ, length, get_or}
use Rattle.spec.specs.Text.{Bytes, Line, ascii, name_byte, lowered, text_of}
use Rattle.spec.specs.Sheet.{Sheet, cell_text, grants}

-- user lines: a user name, then `0` or `1` for each permission
abbrev pub user_lines : List Bytes → List (List Bool) → List Line
user_lines [] rows = []
user_lines (name ∷ names) [] = []
user_lines (name ∷ names) (row ∷ rows) = (name ∷ map cell_text row) ∷ user_lines names rows

-- the bytes of a sheet: the first line is `user`, then the permission names; the user lines follow
unfoldable pub sheet_text : Sheet → Bytes
sheet_text sheet = text_of ((ascii "user" ∷ sheet.permissions) ∷ user_lines sheet.users sheet.rows)

-- a name: 1 to 16 bytes of `A-Z a-z 0-9 - . _`
pub record Name (name : Bytes) : Type 0 where
  pub some_byte : 1 ≤ length name
  pub short : length name ≤ 16
  pub spelled : (b : ℕ) → List-as-Memᴰ b name → So (name_byte b)

-- names of which no two are equal: none agrees with another when `A-Z` are read as `a-z`
pub record Names (names : List Bytes) : Type 0 where
  pub each : (name : Bytes) → List-as-Memᴰ name names → Name name
  pub distinct : (i j : ℕ) → i < j → j < length names → lowered (get_or names i []) ≢ lowered (get_or names j [])

-- these bytes are this sheet's, and it keeps all rules
pub record Keeps (text : Bytes) (sheet : Sheet) : Type 0 where
  pub written : text ≡ sheet_text sheet
  pub short : length text ≤ 65_536
  pub some_permission : 1 ≤ length sheet.permissions
  pub few_permissions : length sheet.permissions ≤ 128
  pub some_user : 1 ≤ length sheet.users
  pub few_users : length sheet.users ≤ 256
  pub permission_names : Names sheet.permissions
  pub user_names : Names sheet.users
  pub a_row_each : length sheet.rows ≡ length sheet.users
  pub even_rows : (row : List Bool) → List-as-Memᴰ row sheet.rows → length row ≡ length sheet.permissions
  pub few_grants : length (grants sheet) ≤ 2_048
