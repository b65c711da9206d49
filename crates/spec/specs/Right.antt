-- "The checker", what makes a book right, from what a book says to its bytes: no reading is involved, and none of the
-- checker's tests. When names are equal is said by `lower`, as in the tests; the cases compute it for every byte.
use Rattle.std.specs.Prelude.{◌≤◌, ◌<◌, ◌≡◌}
use Rattle.spec.specs.Vocabulary.{ℕ, false, So, List, map, List-as-Memᴰ, length}
use Rattle.spec.specs.Text.{Bytes, lowered}
use Rattle.spec.specs.Sheet.{Sheet, Grant, user_count, permission_count, held}
use Rattle.spec.specs.Fit.{fits}
use Rattle.spec.specs.Cover.{grant_at}
use Rattle.spec.specs.RoleSet.{Multiplies}
use Rattle.spec.specs.Roles.{Standing, witnessed, searched, unsettled}
use Rattle.spec.specs.Book.{Said, text_of_blocks, Spelling, sheet_spelling, blocks_spelled}

-- two spellings of equal names: each name is equal to the one at its place
pub record SameNames (spelling other : Spelling) : Type 0 where
  pub permissions : map lowered spelling.permissions ≡ map lowered other.permissions
  pub users : map lowered spelling.users ≡ map lowered other.users
  pub witness : map (map lowered) spelling.witness ≡ map (map lowered) other.witness

-- form: these bytes are what the book says of the sheet, in the book's form. Each name of a user or a permission, each
-- time that it stands there, is equal to the sheet's; all else is byte for byte as in `book_text` of what it says
pub record OfForm (sheet : Sheet) (text : Bytes) (says : Said) : Type 0 where
  pub spelling : Spelling
  pub written : text ≡ text_of_blocks (blocks_spelled spelling says)
  pub same_names : SameNames spelling (sheet_spelling sheet says)
  pub short : length text ≤ 131_072
  pub few_roles : says.roles.count ≤ 128
  pub known_users : (g : Grant) → List-as-Memᴰ g says.witness → g.user < user_count sheet
  pub known_permissions : (g : Grant) → List-as-Memᴰ g says.witness → g.permission < permission_count sheet

-- `witnessed`, bound = roles = witness lines; `searched`, bound = roles, fewer witness lines; `open`, bound = witness
-- lines, fewer than roles
abbrev pub BoundAgrees : Standing → ℕ → ℕ → ℕ → Type 0
BoundAgrees witnessed bound role_count line_count = (bound ≡ role_count) × (role_count ≡ line_count)
BoundAgrees searched bound role_count line_count = (bound ≡ role_count) × (line_count < role_count)
BoundAgrees unsettled bound role_count line_count = (bound ≡ line_count) × (line_count < role_count)

-- counts: roles is the number of role lines, and the bound agrees with the state word
pub record CountsAgree (says : Said) : Type 0 where
  pub roles : says.count ≡ says.roles.count
  pub bound : BoundAgrees says.standing says.bound says.roles.count (length says.witness)

-- witness: every grant of it is held, and no two on different lines fit
pub record WitnessStands (sheet : Sheet) (witness : List Grant) : Type 0 where
  pub all_held : (g : Grant) → List-as-Memᴰ g witness → So (held sheet g)
  pub none_fit : (i j : ℕ) → i < j → j < length witness → fits sheet (grant_at witness i) (grant_at witness j) ≡ false

-- form, counts, product and witness are right
pub record Right (sheet : Sheet) (text : Bytes) (says : Said) : Type 0 where
  pub of_form : OfForm sheet text says
  pub counts : CountsAgree says
  pub product : Multiplies says.roles sheet
  pub witness : WitnessStands sheet says.witness
