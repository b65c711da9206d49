-- The lines of a written book are such as a block can hold: each begins with a word, a count or a name, which has a
-- byte, and no field of them has a comma or a line feed in it.
use Rattle.std.specs.Prelude.{ℕ, ◌≤◌, ◌<◌, ◌≡◌, refl, Bool, false, List, [], ◌∷◌, length, get_or}
use Rattle.std.proofs.Common.{not-suc-le-zero, arith}
use Rattle.std.proofs.Math.Bool.{So}
use Rattle.spec.specs.Vocabulary.{all, list_of}
use Rattle.spec.specs.Limits.{role_limit}
use Rattle.spec.specs.Text.{ascii, Bytes, Line, name_byte}
use Rattle.spec.specs.Sheet.{Sheet, Grant, cell_text, user_count, permission_count}
use Rattle.spec.specs.RoleSet.{RoleSet}
use Rattle.spec.specs.Roles.{Standing}
use Rattle.spec.specs.Decimal.{decimal}
use Rattle.spec.specs.Book.{standing_word, role_name, Said, counts_block, roles_block, users_block, witness_block}
use Rattle.spec.specs.Book.{Spelling, sheet_spelling, blocks_spelled}
use Rattle.spec.specs.Right.{SameNames}
use Rattle.spec.specs.Form.{is_empty_line}
use Rattle.lists.specs.TestLaws.{member_at}
use Rattle.lists.specs.EachLaws.{Each, each_none, each_first, each_listed}
use Rattle.text.specs.Laws.Text.{Field}
use Rattle.decimal.specs.Laws.Count.{decimal_is_count, count_has_digit}
use Rattle.right.specs.WordLaws.{name_bytes_field, count_field, standing_word_field, cell_text_field}
use Rattle.right.specs.WordLaws.{role_name_field, role_name_some}
use Rattle.right.specs.BlockLaws.{BlockLine, GoodBlocks}
use Rattle.right.specs.NameLaws.{GoodName, GoodSheet}
use Rattle.right.specs.Spelling.{SpellsLines, line_of, good_respelled, spells_good}

-- a book that can be written and read: its roles are few, and its witness names users and permissions of the sheet
pub record Sayable (sheet : Sheet) (book : Said) : Type 0 where
  pub few_roles : book.roles.count ≤ role_limit
  pub known_users : Each (λ g. g.user < user_count sheet) book.witness
  pub known_permissions : Each (λ g. g.permission < permission_count sheet) book.witness

-- a line whose first field has a byte
named_line : (name : Bytes) (rest : Line) → 1 ≤ length name → Field name → Each Field rest → BlockLine (name ∷ rest)
named_line [] rest h f later = absurd (not-suc-le-zero h)
named_line (b ∷ name) rest h f later =
    record { fields = record { some_field = omega arith; each = each_first Field f later }; not_empty = filled rest }
  where
    filled : (rest : Line) → is_empty_line ((b ∷ name) ∷ rest) ≡ false
    filled [] = refl
    filled (next ∷ rest) = refl

name_at : (names : List Bytes) → Each GoodName names → (i : ℕ) → i < length names → GoodName (get_or names i [])
name_at names good i h = good (get_or names i []) (member_at names i [] h)

each_cell : (count : ℕ) (cell : ℕ → Bool) → Each Field (list_of count (λ i. cell_text (cell i)))
each_cell count cell = each_listed Field count (λ i. cell_text (cell i)) (λ i h. cell_text_field (cell i))

word_line : (word : Bytes) (rest : Line) → So (all name_byte word) → 1 ≤ length word → Each Field rest
    → BlockLine (word ∷ rest)
word_line word rest e h later = named_line word rest h (name_bytes_field word e) later

pub counts_lines : (count bound : ℕ) (s : Standing) → Each BlockLine (counts_block count bound s)
unfolding name_byte
counts_lines count bound s =
    each_first BlockLine
    (word_line (ascii "roles") (ascii "bound" ∷ ascii "state" ∷ []) refl (omega arith)
    (each_first Field (name_bytes_field (ascii "bound") refl)
    (each_first Field (name_bytes_field (ascii "state") refl) (each_none Field))))
    (each_first BlockLine
    (named_line (decimal count) (decimal bound ∷ standing_word s ∷ []) (count_has_digit (decimal count)
    (decimal_is_count count))
    (count_field (decimal count) (decimal_is_count count))
    (each_first Field (count_field (decimal bound) (decimal_is_count bound)) (each_first Field (standing_word_field s)
    (each_none Field))))
    (each_none BlockLine))

roles_lines : (permissions : List Bytes) → Each GoodName permissions → (roles : RoleSet) → Each BlockLine
    (roles_block permissions roles)
unfolding name_byte
roles_lines permissions good roles =
    each_first BlockLine
    (word_line (ascii "role") permissions refl (omega arith) (λ name m. (good name m).field))
    (each_listed BlockLine roles.count (λ r. role_name r ∷ list_of (length permissions)
    (λ p. cell_text (roles.gives r p)))
    (λ r h. named_line (role_name r) (list_of (length permissions) (λ p. cell_text (roles.gives r p)))
    (role_name_some r) (role_name_field r)
    (each_cell (length permissions) (roles.gives r))))

users_lines : (users : List Bytes) → Each GoodName users → (roles : RoleSet) → Each BlockLine (users_block users roles)
unfolding name_byte
users_lines users good roles =
    each_first BlockLine
    (word_line (ascii "user") (list_of roles.count role_name) refl (omega arith)
    (each_listed Field roles.count role_name (λ r h. role_name_field r)))
    (each_listed BlockLine (length users) (λ u. get_or users u [] ∷ list_of roles.count
    (λ r. cell_text (roles.has u r)))
    (λ u h.
    let name = name_at users good u h in
    named_line (get_or users u []) (list_of roles.count (λ r. cell_text (roles.has u r))) name.some_byte
    name.field
    (each_cell roles.count (roles.has u))))

witness_lines : (sheet : Sheet) → GoodSheet sheet → (grants : List Grant) → Each (λ g. g.user < user_count sheet)
    grants
    → Each (λ g. g.permission < permission_count sheet) grants → (lines : List Line) → SpellsLines sheet grants lines
    → Each BlockLine (witness_block lines)
unfolding name_byte
witness_lines sheet good grants users permissions lines spelled =
    each_first BlockLine
    (word_line (ascii "user") (ascii "permission" ∷ []) refl (omega arith)
    (each_first Field (name_bytes_field (ascii "permission") refl) (each_none Field)))
    (λ line m.
    let r = line_of sheet grants lines spelled line m in
    let l = r.spelled in
    let user = good_respelled l.same_user
    (name_at sheet.users good.users.each r.grant.user (users r.grant r.member)) in
    let permission = good_respelled l.same_permission
    (name_at sheet.permissions good.permissions.each r.grant.permission
    (permissions r.grant r.member)) in
    rw l.fields
    (named_line l.user (l.permission ∷ []) user.some_byte user.field
    (each_first Field permission.field (each_none Field))))

-- the blocks of a book that can be written, its names spelled in any case
pub good_blocks : (sheet : Sheet) → GoodSheet sheet → (book : Said) → Sayable sheet book → (spelling : Spelling)
    → SameNames spelling (sheet_spelling sheet book)
    → GoodBlocks (blocks_spelled spelling book)
unfolding blocks_spelled
good_blocks sheet good book s spelling same =
    record {
      some_block = omega arith;
      each =
          each_first (Each BlockLine)
          (counts_lines book.count book.bound book.standing)
          (each_first (Each BlockLine)
          (roles_lines spelling.permissions (spells_good spelling.permissions sheet.permissions
          same.permissions good.permissions.each) book.roles)
          (each_first (Each BlockLine)
          (users_lines spelling.users (spells_good spelling.users sheet.users same.users
          good.users.each) book.roles)
          (each_first (Each BlockLine)
          (witness_lines sheet good book.witness s.known_users s.known_permissions spelling.witness
          same.witness)
          (each_none (Each BlockLine)))));
    }
