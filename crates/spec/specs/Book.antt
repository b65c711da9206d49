-- "The book": what a book says, its four blocks and its bytes, and the book of a sheet in a state of its search.
use Rattle.std.specs.Prelude.{◌∷◌, ◌++◌}
use Rattle.spec.specs.Vocabulary.{ℕ, suc, List, [], map, length, get_or, joined, list_of}
use Rattle.spec.specs.Text.{Bytes, Line, ascii, text_of}
use Rattle.spec.specs.Sheet.{Sheet, Grant, user_name, permission_name, cell_text}
use Rattle.spec.specs.Witness.{witness}
use Rattle.spec.specs.Machine.{State}
use Rattle.spec.specs.RoleSet.{RoleSet}
use Rattle.spec.specs.Roles.{Standing, witnessed, searched, unsettled, roles_of, role_count, standing, bound}
use Rattle.spec.specs.Decimal.{decimal}

-- what a book says (role decomposition with certificate): two counts, the state word, two matrices, the witness lines
pub record Said : Type 0 where
  pub count : ℕ
  pub bound : ℕ
  pub standing : Standing
  pub roles : RoleSet
  pub witness : List Grant

-- a block: a line of names, then lines
abbrev pub Block : Type 0
Block = List Line

-- an empty line is one empty field
abbrev pub empty_line : Line
empty_line = [] ∷ []

-- blocks as bytes, one empty line between: each starts at the byte where the one before ended, plus that empty line
unfoldable pub text_of_blocks : List Block → Bytes
text_of_blocks blocks = text_of (joined empty_line blocks)

-- the state word as the book spells it
abbrev pub standing_word : Standing → Bytes
standing_word witnessed = ascii "witnessed"
standing_word searched = ascii "searched"
standing_word unsettled = ascii "open"

-- roles are `R1`, `R2`, ..: the role of number 0 is `R1`
unfoldable pub role_name : ℕ → Bytes
unfolding decimal
role_name r = ascii "R" ++ decimal (suc r)

-- block 1: roles, bound and state word
abbrev pub counts_heading : Line
counts_heading = ascii "roles" ∷ ascii "bound" ∷ ascii "state" ∷ []

abbrev pub counts_block : ℕ → ℕ → Standing → Block
counts_block count bound standing = counts_heading ∷ (decimal count ∷ decimal bound ∷ standing_word standing ∷ []) ∷ []

-- block 2: 1 is "the role holds the permission"
abbrev pub roles_block : List Bytes → RoleSet → Block
roles_block permissions roles =
    (ascii "role" ∷ permissions)
    ∷ list_of roles.count (λ r. role_name r ∷ list_of (length permissions) (λ p. cell_text (roles.gives r p)))

-- block 3: 1 is "the user has the role"; with no roles it is `user` and the bare user names
abbrev pub users_block : List Bytes → RoleSet → Block
users_block users roles =
    (ascii "user" ∷ list_of roles.count role_name)
    ∷ list_of (length users) (λ u. get_or users u [] ∷ list_of roles.count (λ r. cell_text (roles.has u r)))

-- block 4 lists the witness
abbrev pub witness_heading : Line
witness_heading = ascii "user" ∷ ascii "permission" ∷ []

abbrev pub witness_line : Sheet → Grant → Line
witness_line sheet g = user_name sheet g.user ∷ permission_name sheet g.permission ∷ []

abbrev pub witness_block : List Line → Block
witness_block lines = witness_heading ∷ lines

-- the names of a book as it spells them: the permissions in block 2, the users in block 3, the witness lines in block 4
pub record Spelling : Type 0 where
  pub permissions : List Bytes
  pub users : List Bytes
  pub witness : List Line

-- the names as the sheet spells them
abbrev pub sheet_spelling : Sheet → Said → Spelling
sheet_spelling sheet says =
    record {
      permissions = sheet.permissions;
      users = sheet.users;
      witness = map (witness_line sheet) says.witness;
    }

-- the four blocks that say this with names so spelled
unfoldable pub blocks_spelled : Spelling → Said → List Block
unfolding role_name
blocks_spelled spelling says =
    counts_block says.count says.bound says.standing
    ∷ roles_block spelling.permissions says.roles
    ∷ users_block spelling.users says.roles
    ∷ witness_block spelling.witness
    ∷ []

-- the four blocks that say this of a sheet: a writing spells names as its sheet does
unfoldable pub blocks_saying : Sheet → Said → List Block
unfolding blocks_spelled
blocks_saying sheet says = blocks_spelled (sheet_spelling sheet says) says

-- the bytes that say this of a sheet
unfoldable pub book_text : Sheet → Said → Bytes
unfolding blocks_saying text_of_blocks
book_text sheet says = text_of_blocks (blocks_saying sheet says)

-- what the book of a sheet says in a state of its search; the witness stands in grant order
unfoldable pub said_in : Sheet → State → Said
unfolding roles_of role_count bound standing witness decimal
said_in sheet st =
    record {
      count = role_count sheet st;
      bound = bound sheet st;
      standing = standing sheet st;
      roles = roles_of sheet st.best;
      witness = witness sheet;
    }

-- the book of a sheet in a state of its search
unfoldable pub book : Sheet → State → Bytes
unfolding said_in book_text
book sheet st = book_text sheet (said_in sheet st)
