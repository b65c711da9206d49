-- What a book says by rows of words and a list of cells: the two matrices as their cells, and the witness as the grants
-- at the cells, in the order of its lines. Assumes nothing.
use Rattle.std.specs.Prelude.{ℕ, ◌≤◌, ◌<◌, List, ◌∷◌, map, length, get_or}
use Rattle.spec.specs.Vocabulary.{list_of}
use Rattle.spec.specs.Limits.{grant_limit}
use Rattle.spec.specs.Text.{ascii, Line}
use Rattle.spec.specs.Sheet.{Sheet, user_count, permission_count, cell_text, user_name}
use Rattle.spec.specs.Roles.{Standing}
use Rattle.spec.specs.Book.{role_name, Block, Said}
use Rattle.cell_rows.specs.Rows.{cell}
use Rattle.cell_rows.specs.CellPlaces.{grant_of}
use Rattle.product.specs.RowAfter.{roles_in}

-- what is said by two matrices and the cells of a witness
abbrev pub said_by : List ℕ → List ℕ → List ℕ → ℕ → ℕ → Standing → Said
said_by has gives cells count bound standing =
    record {
      count = count;
      bound = bound;
      standing = standing;
      roles = roles_in has gives count;
      witness = map grant_of cells;
    }

-- the line of names of block 2, a role's line, and block 2
abbrev pub role_heading : Sheet → Line
role_heading sheet = ascii "role" ∷ sheet.permissions

abbrev pub role_line : List ℕ → ℕ → ℕ → Line
role_line gives permissions r = role_name r ∷ list_of permissions (λ p. cell_text (cell gives r p))

abbrev pub shown_roles : Sheet → List ℕ → ℕ → Block
shown_roles sheet gives count =
    role_heading sheet ∷ list_of count (role_line gives (permission_count sheet))

-- a user's line, and block 3
abbrev pub user_line : Sheet → List ℕ → ℕ → ℕ → Line
user_line sheet has count u = user_name sheet u ∷ list_of count (λ r. cell_text (cell has u r))

abbrev pub shown_users : Sheet → List ℕ → ℕ → Block
shown_users sheet has count =
    (ascii "user" ∷ list_of count role_name) ∷ list_of (user_count sheet) (user_line sheet has count)

-- no more cells than a sheet has grants, each of a user and of a permission of the sheet
pub record CellsWithin (cells : List ℕ) (sheet : Sheet) : Type 0 where
  pub few : length cells ≤ grant_limit
  pub user_below : (i : ℕ) → i < length cells → (grant_of (get_or cells i 0)).user < user_count sheet
  pub permission_below : (i : ℕ) → i < length cells → (grant_of (get_or cells i 0)).permission < permission_count sheet
