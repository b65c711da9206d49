-- The book that rows of words, the cells of a witness and counts say: block after block in the order in which it is
-- written; and the book of a role set that the rows hold, since only cells of the sheet's users, the roles and the
-- sheet's permissions are spelled. Assumes nothing.
use Rattle.std.specs.Prelude.{ℕ, ◌≤◌, ◌≡◌, List, [], ◌∷◌, ◌++◌, map}
use Rattle.std.proofs.Common.{lt_of_lt_of_le, ap, ◌∙◌}
use Rattle.spec.specs.Vocabulary.{list_of}
use Rattle.spec.specs.Text.{ascii, Bytes, Line, text_of}
use Rattle.spec.specs.Sheet.{Sheet, Grant, sheet_of, user_count, permission_count, cell_text, user_name}
use Rattle.spec.specs.Witness.{witness}
use Rattle.spec.specs.Machine.{State}
use Rattle.spec.specs.RoleSet.{RoleSet}
use Rattle.spec.specs.Roles.{Standing, roles_of, role_count, standing, bound}
use Rattle.spec.specs.Book.{role_name, Block, text_of_blocks, counts_block, roles_block, users_block, witness_block}
use Rattle.spec.specs.Book.{witness_line, blocks_saying, book_text, said_in, book}
use Rattle.lists.specs.ListOfLaws.{list_of_same}
use Rattle.cell_rows.specs.Rows.{row_bits}
use Rattle.cell_rows.specs.CellPlaces.{grant_of}
use Rattle.product.specs.RoleRows.{RoleRows, RolesAt}
use Rattle.standing.specs.StandingCases.{standing_case}
use Rattle.book_lines.specs.CountsText.{counts_text}
use Rattle.book_lines.specs.RowsSaid.{said_by, shown_roles, shown_users}
use Rattle.text.specs.Line.{line_end}
use Rattle.text.specs.Laws.Line.{four_blocks}
use Rattle.book_lines.specs.declared.counts.Counts.{Counts}

-- the book of a sheet's bytes
abbrev pub rows_book : Bytes → List ℕ → List ℕ → List ℕ → Counts → Bytes
rows_book text has gives cells counts =
    book_text (sheet_of text)
    (said_by has gives cells counts.roles counts.bound (standing_case counts.standing))

-- its blocks one after the other, one empty line between each two
pub book_parts : (text : Bytes) (has gives cells : List ℕ) (counts : Counts)
    → rows_book text has gives cells counts
    ≡ (((((counts_text counts ++ line_end) ++ text_of (shown_roles (sheet_of text) gives counts.roles)) ++ line_end)
    ++ text_of (shown_users (sheet_of text) has counts.roles)) ++ line_end)
    ++ text_of (witness_block (map (witness_line (sheet_of text)) (map grant_of cells)))
unfolding book_text blocks_saying
book_parts text has gives cells counts =
    four_blocks
    (counts_block counts.roles counts.bound (standing_case counts.standing))
    (shown_roles (sheet_of text) gives counts.roles)
    (shown_users (sheet_of text) has counts.roles)
    (witness_block (map (witness_line (sheet_of text)) (map grant_of cells)))

-- ---- the book of a role set

-- the two blocks spell the role set that the rows hold
roles_shown : (sheet : Sheet) {has gives : List ℕ} {users : ℕ} {roles : RoleSet} → RoleRows has gives users roles
    → permission_count sheet ≤ row_bits
    → shown_roles sheet gives roles.count ≡ roles_block sheet.permissions roles
unfolding role_name
roles_shown sheet {roles} rows fit =
    ap (λ (lines : Block). (ascii "role" ∷ sheet.permissions) ∷ lines)
    (list_of_same roles.count _ _ (λ r h.
    ap (λ (cells : Line). role_name r ∷ cells)
    (list_of_same (permission_count sheet) _ _ (λ p k. ap cell_text (rows.gives_shown r p h (lt_of_lt_of_le k fit))))))

users_shown : (sheet : Sheet) {has gives : List ℕ} {roles : RoleSet} → RoleRows has gives (user_count sheet) roles
    → shown_users sheet has roles.count ≡ users_block sheet.users roles
users_shown sheet {roles} rows =
    ap (λ (lines : Block). (ascii "user" ∷ list_of roles.count role_name) ∷ lines)
    (list_of_same (user_count sheet) _ _ (λ u h.
    ap (λ (cells : Line). user_name sheet u ∷ cells)
    (list_of_same roles.count _ _ (λ r k. ap cell_text (rows.has_shown u r h k)))))

-- so the book is that of the role set, and of the grants at the cells, which are the witness
pub rows_book_says : (text : Bytes) {has gives : List ℕ} (cells : List ℕ) (counts : Counts) {roles : RoleSet}
    {grants : List Grant}
    → RolesAt has gives counts.roles (user_count (sheet_of text)) roles → permission_count (sheet_of text) ≤ row_bits
    → map grant_of cells ≡ grants
    → rows_book text has gives cells counts
    ≡ book_text (sheet_of text)
    (record {
      count = roles.count;
      bound = counts.bound;
      standing = standing_case counts.standing;
      roles = roles;
      witness = grants;
    })
unfolding book_text blocks_saying
rows_book_says text {has} {gives} cells counts {roles} {grants} at fit e =
    let sheet : Sheet = sheet_of text in
    let first : Block = counts_block roles.count counts.bound (standing_case counts.standing) in
    let last : Block = witness_block (map (witness_line sheet) grants) in
    ap (λ (n : ℕ). book_text sheet (said_by has gives cells n counts.bound (standing_case counts.standing)))
    at.total
    ∙ ap (λ (l : List Grant).
    text_of_blocks (first ∷ shown_roles sheet gives roles.count ∷ shown_users sheet has roles.count ∷
    witness_block (map (witness_line sheet) l) ∷ [])) e
    ∙ ap (λ (b : Block). text_of_blocks (first ∷ b ∷ shown_users sheet has roles.count ∷ last ∷ []))
    (roles_shown sheet at.rows fit)
    ∙ ap (λ (b : Block). text_of_blocks (first ∷ roles_block sheet.permissions roles ∷ b ∷ last ∷ []))
    (users_shown sheet at.rows)

-- and it is the book of the sheet in a state of its search, where the counts, the roles and the witness are those of
-- that state
pub rows_book_in : (text : Bytes) {has gives : List ℕ} (cells : List ℕ) (counts : Counts) (st : State)
    → RolesAt has gives counts.roles (user_count (sheet_of text)) (roles_of (sheet_of text) st.best)
    → permission_count (sheet_of text) ≤ row_bits → counts.bound ≡ bound (sheet_of text) st
    → standing_case counts.standing ≡ standing (sheet_of text) st
    → map grant_of cells ≡ witness (sheet_of text)
    → rows_book text has gives cells counts ≡ book (sheet_of text) st
unfolding book said_in role_count
rows_book_in text cells counts st at fit same-bound same-standing same_witness =
    let sheet : Sheet = sheet_of text in
    let roles : RoleSet = roles_of sheet st.best in
    rows_book_says text cells counts at fit same_witness
    ∙ ap (λ (n : ℕ). book_text sheet (record {
      count = roles.count;
      bound = n;
      standing = standing_case counts.standing;
      roles = roles;
      witness = witness sheet;
    })) same-bound
    ∙ ap (λ (k : Standing). book_text sheet (record {
      count = roles.count;
      bound = bound sheet st;
      standing = k;
      roles = roles;
      witness = witness sheet;
    })) same-standing
