-- "The checker", the form of a book for a sheet, line by line, and what a book of the form says. Names of users and
-- permissions are compared by `same_name`, names of roles and words of the form by their bytes.
use Rattle.std.specs.Prelude.{◌&&◌, ◌||◌, ◌∷◌}
use Rattle.spec.specs.Vocabulary.{ℕ, suc, Bool, false, cond, Option·getD, List, [], map, tail}
use Rattle.spec.specs.Vocabulary.{eqb, leb, length, get_or, every_below, lowest_below, empty, any, all, same_by}
use Rattle.spec.specs.Vocabulary.{list_of, parted_by}
use Rattle.spec.specs.Limits.{role_limit}
use Rattle.spec.specs.Text.{Bytes, Line, ascii, same_bytes, lower, same_name, last_byte, line_feed, lines_of}
use Rattle.spec.specs.Sheet.{Sheet, Grant, first_field, first_line, is_one, is_bit, user_count}
use Rattle.spec.specs.Sheet.{permission_count, user_name}
use Rattle.spec.specs.Roles.{Standing, witnessed, searched, unsettled}
use Rattle.spec.specs.Decimal.{is_count, number_of}
use Rattle.spec.specs.Book.{Said, Block, standing_word, role_name, counts_heading, witness_heading}

-- an empty line is one empty field
abbrev pub is_empty_line : Line → Bool
is_empty_line [] = false
is_empty_line (field ∷ []) = empty field
is_empty_line (field ∷ next ∷ rest) = false

-- the blocks that empty lines part
unfoldable pub blocks_of : Bytes → List Block
blocks_of text = parted_by is_empty_line (lines_of text)

-- two lines are equal, field for field
abbrev pub same_line : Line → Line → Bool
same_line = same_by same_bytes

-- a block of a list of blocks, a line of a block, a field of a line, each by number. A missing one is read as empty;
-- the form tests the lengths, so an empty one never passes
abbrev pub block_at : List Block → ℕ → Block
block_at blocks n = get_or blocks n []

abbrev pub line_at : Block → ℕ → Line
line_at block n = get_or block n []

abbrev pub field_at : Line → ℕ → Bytes
field_at line n = get_or line n []

-- a field is one of the three state words
abbrev pub is_standing : Bytes → Bool
is_standing field =
    same_bytes field (standing_word witnessed)
    || same_bytes field (standing_word searched)
    || same_bytes field (standing_word unsettled)

-- block 1: its line of names, then roles, bound and state
unfoldable pub counts_form : Block → Bool
counts_form block =
    eqb (length block) 2
    && same_line (line_at block 0) counts_heading
    && eqb (length (line_at block 1)) 3
    && is_count (field_at (line_at block 1) 0)
    && is_count (field_at (line_at block 1) 1)
    && is_standing (field_at (line_at block 1) 2)

-- a line of a name and as many cells as asked
abbrev pub cells_line : Line → ℕ → Bool
cells_line line count = eqb (length line) (suc count) && all is_bit (tail line)

-- the line of role r: its name, and a cell for each permission
abbrev pub is_role_line : Sheet → ℕ → Line → Bool
is_role_line sheet r line = same_bytes (first_field line) (role_name r) && cells_line line (permission_count sheet)

-- block 2: `role` and names equal to those of the sheet's permissions in order, then lines of the roles `R1`, `R2`, ..
-- in order, within the limit
unfoldable pub roles_form : Sheet → Block → Bool
unfolding role_limit role_name lower
roles_form sheet block =
    same_bytes (first_field (first_line block)) (ascii "role")
    && same_by same_name (tail (first_line block)) sheet.permissions
    && leb (length (tail block)) role_limit
    && every_below (length (tail block)) (λ r. is_role_line sheet r (line_at (tail block) r))

-- the line of user u: a name equal to the user's, and a cell for each role
abbrev pub is_user_line : Sheet → ℕ → ℕ → Line → Bool
is_user_line sheet role_count u line = same_name (first_field line) (user_name sheet u) && cells_line line role_count

-- block 3: `user` and the same roles, then a line for each of the sheet's users in order
unfoldable pub users_form : Sheet → ℕ → Block → Bool
unfolding role_name lower
users_form sheet role_count block =
    same_line (first_line block) (ascii "user" ∷ list_of role_count role_name)
    && eqb (length (tail block)) (user_count sheet)
    && every_below (user_count sheet) (λ u. is_user_line sheet role_count u (line_at (tail block) u))

-- a name equal to one of these
abbrev pub known : List Bytes → Bytes → Bool
known names name = any (same_name name) names

-- a line of the witness: names equal to those of a user and of a permission of the sheet
abbrev pub is_witness_line : Sheet → Line → Bool
is_witness_line sheet line =
    eqb (length line) 2 && known sheet.users (field_at line 0) && known sheet.permissions (field_at line 1)

-- block 4: its line of names, then lines of the witness, in any order
unfoldable pub witness_form : Sheet → Block → Bool
unfolding lower
witness_form sheet block = same_line (first_line block) witness_heading && all (is_witness_line sheet) (tail block)

-- four blocks, one empty line between, every line ended by a line feed
unfoldable pub form : Sheet → Bytes → Bool
unfolding blocks_of counts_form roles_form users_form witness_form
form sheet text =
    let blocks : List Block = blocks_of text in
    eqb (last_byte text) line_feed
    && eqb (length blocks) 4
    && counts_form (block_at blocks 0)
    && roles_form sheet (block_at blocks 1)
    && users_form sheet (length (tail (block_at blocks 1))) (block_at blocks 2)
    && witness_form sheet (block_at blocks 3)

-- the lowest number of a name in a list of names that is equal to this one. The 0 that stands for an unknown name never
-- decides a number: cause 12 applies then, and is judged before all that look at it
abbrev pub number_among : List Bytes → Bytes → ℕ
number_among names name = Option·getD (lowest_below (length names) (λ i. same_name name (get_or names i []))) 0

-- the grant that a witness line names
abbrev pub grant_of_line : Sheet → Line → Grant
grant_of_line sheet line =
    record {
      user = number_among sheet.users (field_at line 0);
      permission = number_among sheet.permissions (field_at line 1);
    }

-- the state that a word says. What stands for a word that is none of the three never decides a number: cause 12
-- applies then, and is judged before all that look at it
abbrev pub standing_said : Bytes → Standing
standing_said word =
    cond (same_bytes word (standing_word witnessed)) witnessed
    (cond (same_bytes word (standing_word searched)) searched unsettled)

-- what four blocks of the form say
abbrev pub said_by_blocks : Sheet → List Block → Said
said_by_blocks sheet blocks =
    let counts : Line = line_at (block_at blocks 0) 1 in
    let role_lines : List Line = tail (block_at blocks 1) in
    let user_lines : List Line = tail (block_at blocks 2) in
    record {
      count = number_of (field_at counts 0);
      bound = number_of (field_at counts 1);
      standing = standing_said (field_at counts 2);
      roles = record {
        count = length role_lines;
        has = λ u r. is_one (field_at (line_at user_lines u) (suc r));
        gives = λ r p. is_one (field_at (line_at role_lines r) (suc p));
      };
      witness = map (grant_of_line sheet) (tail (block_at blocks 3));
    }

-- what these bytes say as a book for the sheet
unfoldable pub said : Sheet → Bytes → Said
unfolding blocks_of lower
said sheet text = said_by_blocks sheet (blocks_of text)
