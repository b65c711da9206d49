-- A book as the bytes that follow one another: the parts that a reader meets, each with the empty line that ends its
-- block. Assumes nothing.
use Rattle.std.specs.Prelude.{ℕ, ◌≡◌, refl, Bool, List, [], ◌∷◌, ◌++◌, map, length, get_or}
use Rattle.std.proofs.Common.{◌∙◌, append_assoc}
use Rattle.spec.specs.Vocabulary.{list_of, concat}
use Rattle.spec.specs.Text.{ascii, Bytes, Line, comma, line_feed, line_text, text_of}
use Rattle.spec.specs.Sheet.{cell_text}
use Rattle.spec.specs.RoleSet.{RoleSet}
use Rattle.spec.specs.Roles.{Standing}
use Rattle.spec.specs.Decimal.{decimal}
use Rattle.spec.specs.Book.{standing_word, role_name, Block, Said, counts_block, roles_block, users_block}
use Rattle.spec.specs.Book.{witness_block, Spelling, blocks_spelled, text_of_blocks}
use Rattle.lists.specs.Listed.{listed, listed_same}
use Rattle.cells_read.specs.CellsWord.{cells_text}
use Rattle.text.specs.Line.{behind_comma, line_end}
use Rattle.text.specs.Laws.Line.{line_parts, block_parts, four_blocks}

-- ---- lines

-- names of roles behind a word
abbrev pub role_fields : ℕ → Bytes
role_fields count = listed count (λ r. behind_comma (role_name r))

-- what stands behind the name of a line: cells and the end of the line
abbrev pub row_text : ℕ → (ℕ → Bool) → Bytes
row_text count cells = cells_text count cells ++ line_end

-- a line of a name and cells
abbrev pub named_text : Bytes → ℕ → (ℕ → Bool) → Bytes
named_text name count cells = name ++ row_text count cells

-- such lines by number
abbrev pub named_texts : (ℕ → Bytes) → ℕ → (ℕ → ℕ → Bool) → ℕ → Bytes
named_texts name width cells count = listed count (λ i. named_text (name i) width (cells i))

-- ---- parts

-- block 1: its line of names, the two counts and the state
abbrev pub counts_part : Bytes → Bytes → Standing → Bytes
counts_part role_digits bound_digits standing =
    ascii "roles,bound,state\n"
    ++ ((role_digits ++ comma ∷ [])
    ++ ((bound_digits ++ comma ∷ []) ++ ((standing_word standing ++ line_feed ∷ []) ++ line_end)))

-- block 2: its line of names, and a line for each role
abbrev pub roles_heading : List Bytes → Bytes
roles_heading permissions = line_text (ascii "role" ∷ permissions)

abbrev pub roles_part : List Bytes → ℕ → (ℕ → ℕ → Bool) → Bytes
roles_part permissions count gives =
    roles_heading permissions ++ (named_texts role_name (length permissions) gives count ++ line_end)

-- block 3: its line of names, and a line for each user
abbrev pub users_heading : ℕ → Bytes
users_heading count = (ascii "user" ++ role_fields count) ++ line_end

abbrev pub users_part : List Bytes → ℕ → (ℕ → ℕ → Bool) → Bytes
users_part users count has =
    users_heading count ++ (named_texts (λ u. get_or users u []) count has (length users) ++ line_end)

-- block 4: its line of names, and the lines of the witness
abbrev pub witness_texts : List Line → Bytes
witness_texts lines = concat (map line_text lines)

abbrev pub witness_part : List Line → Bytes
witness_part lines = ascii "user,permission\n" ++ witness_texts lines

-- ---- the blocks are these parts

counts_in_parts : (count bound : ℕ) (standing : Standing)
    → text_of (counts_block count bound standing) ++ line_end ≡ counts_part (decimal count) (decimal bound) standing
counts_in_parts count bound standing = simp append_assoc

named_in_parts : (name : Bytes) (count : ℕ) (cells : ℕ → Bool)
    → line_text (name ∷ list_of count (λ i. cell_text (cells i))) ≡ named_text name count cells
named_in_parts name count cells =
    line_parts name count (λ i. cell_text (cells i)) ∙ append_assoc name (cells_text count cells) line_end

-- a block of such lines
block_in_parts : (heading : Line) (name : ℕ → Bytes) (width : ℕ) (cells : ℕ → ℕ → Bool) (count : ℕ)
    → text_of (heading ∷ list_of count (λ i. name i ∷ list_of width (λ j. cell_text (cells i j)))) ++ line_end
    ≡ line_text heading ++ (named_texts name width cells count ++ line_end)
block_in_parts heading name width cells count =
    rw (
      block_parts heading count (λ i. name i ∷ list_of width (λ j. cell_text (cells i j))),
      listed_same count (λ i. line_text (name i ∷ list_of width (λ j. cell_text (cells i j))))
          (λ i. named_text (name i) width (cells i))
          (λ i h. named_in_parts (name i) width (cells i)),
    )
    (append_assoc (line_text heading) (named_texts name width cells count) line_end)

roles_in_parts : (permissions : List Bytes) (roles : RoleSet)
    → text_of (roles_block permissions roles) ++ line_end ≡ roles_part permissions roles.count roles.gives
roles_in_parts permissions roles =
    block_in_parts (ascii "role" ∷ permissions) role_name (length permissions) roles.gives roles.count

users_in_parts : (users : List Bytes) (roles : RoleSet)
    → text_of (users_block users roles) ++ line_end ≡ users_part users roles.count roles.has
users_in_parts users roles =
    block_in_parts (ascii "user" ∷ list_of roles.count role_name) (λ u. get_or users u []) roles.count
    roles.has (length users)
    ∙ rw (line_parts (ascii "user") roles.count role_name)

grouped : (a b c d e : Bytes) → (((((a ++ e) ++ b) ++ e) ++ c) ++ e) ++ d ≡ (a ++ e) ++ ((b ++ e) ++ ((c ++ e) ++ d))
grouped a b c d e = simp append_assoc

same_parts : {a b c d a' b' c' d' : Bytes} → a ≡ a' → b ≡ b' → c ≡ c' → d ≡ d' → a ++ (b ++ (c ++ d)) ≡ a' ++
    (b' ++ (c' ++ d'))
same_parts p q r s = cc

-- a book is its four parts, however it spells the names
pub book_in_parts : (spelling : Spelling) (says : Said)
    → text_of_blocks (blocks_spelled spelling says)
    ≡ counts_part (decimal says.count) (decimal says.bound) says.standing
    ++ (roles_part spelling.permissions says.roles.count says.roles.gives
    ++ (users_part spelling.users says.roles.count says.roles.has ++ witness_part spelling.witness))
unfolding blocks_spelled
book_in_parts spelling says =
    let counts : Block = counts_block says.count says.bound says.standing in
    let roles : Block = roles_block spelling.permissions says.roles in
    let users : Block = users_block spelling.users says.roles in
    let witness : Block = witness_block spelling.witness in
    four_blocks counts roles users witness
    ∙ grouped (text_of counts) (text_of roles) (text_of users) (text_of witness) line_end
    ∙ same_parts (counts_in_parts says.count says.bound says.standing)
    (roles_in_parts spelling.permissions says.roles) (users_in_parts spelling.users says.roles) refl
