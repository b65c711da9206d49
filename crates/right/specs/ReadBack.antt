-- A written book is read as what was written, in whatever case its names are spelled: its text parts into the very
-- blocks that were written, each of the form, and each of them is read place by place.
use Prim.Native.Nat.{ℕ, suc, ◌<◌}
use Rattle.std.proofs.Common.{arith, ap}
use Rattle.std.specs.Prelude.{◌≡◌, refl, Bool, true, false, length}
use Rattle.std.proofs.Math.Bool.{So}
use mathlib.Core.List.Memᴰ
use mathlib.Core.List.{List, [], ◌∷◌, map, head-eq_of_cons-eq, tail-eq_of_cons-eq}
use Rattle.std.proofs.Math.ListN.{get_or}
use Rattle.spec.specs.Vocabulary.{list_of}
use Rattle.spec.specs.Text.{Bytes, Line, line_feed, last_byte}
use Rattle.spec.specs.Sheet.{Sheet, Grant, is_one, cell_text, user_count, permission_count}
use Rattle.spec.specs.Roles.{Standing, witnessed, searched, unsettled}
use Rattle.spec.specs.Book.{standing_word, role_name, Said, text_of_blocks, counts_block, roles_block, users_block}
use Rattle.spec.specs.Book.{witness_block, Spelling, sheet_spelling, blocks_spelled}
use Rattle.spec.specs.Form.{blocks_of, grant_of_line, line_at, field_at, standing_said, form, said_by_blocks, said}
use Rattle.spec.specs.Right.{SameNames}
use Rattle.lists.specs.EachLaws.{Each}
use Rattle.lists.specs.ListOfLaws.{length_list_of, getD_list_of}
use Rattle.decimal.specs.Laws.Decimal.{number_of_decimal}
use Rattle.right.specs.BlockLaws.{blocks_read_as_written, blocks_end_in_feed}
use Rattle.right.specs.FormParts.{FormOf, form_intro}
use Rattle.right.specs.WrittenForm.{counts_block_form, roles_block_form, users_block_form, witness_block_form}
use Rattle.right.specs.WrittenLines.{Sayable, good_blocks}
use Rattle.right.specs.NameLaws.{GoodSheet, number_among_at}
use Rattle.right.specs.Spelling.{spells_length, SpelledLine, spelled_line, SpellsLines}

-- two books say the same of a sheet: the same of each of its users and permissions and of each role
pub record SaysSame (sheet : Sheet) (read written : Said) : Type 0 where
  pub count : read.count ≡ written.count
  pub bound : read.bound ≡ written.bound
  pub standing : read.standing ≡ written.standing
  pub roles : read.roles.count ≡ written.roles.count
  pub has : (u r : ℕ) → u < user_count sheet → r < written.roles.count → read.roles.has u r ≡ written.roles.has
      u r
  pub gives : (r p : ℕ) → r < written.roles.count → p < permission_count sheet → read.roles.gives r p ≡
      written.roles.gives r p
  pub witness : read.witness ≡ written.witness

module _ (sheet : Sheet) (good : GoodSheet sheet) (book : Said) (s : Sayable sheet book) (spelling : Spelling)
    (same : SameNames spelling (sheet_spelling sheet book)) where
  -- ---- the text

  blocks_of_book : blocks_of (text_of_blocks (blocks_spelled spelling book)) ≡ blocks_spelled spelling book
  blocks_of_book = blocks_read_as_written (blocks_spelled spelling book) (good_blocks sheet good book s spelling same)

  book_ends_in_feed : last_byte (text_of_blocks (blocks_spelled spelling book)) ≡ line_feed
  unfolding blocks_spelled
  book_ends_in_feed =
      blocks_end_in_feed (counts_block book.count book.bound book.standing)
      (roles_block spelling.permissions book.roles ∷ users_block spelling.users book.roles
      ∷ witness_block spelling.witness ∷ []) (omega arith)

  -- ---- the form

  blocks_form : FormOf sheet (text_of_blocks (blocks_spelled spelling book)) (blocks_spelled spelling book)
  unfolding blocks_spelled
  blocks_form =
      record {
        ended = book_ends_in_feed;
        four_blocks = refl;
        counts = counts_block_form book.count book.bound book.standing;
        roles = roles_block_form sheet book.roles s.few_roles spelling.permissions same.permissions;
        users = rw (length_list_of book.roles.count line) (users_block_form sheet book.roles spelling.users
            same.users);
        witness = witness_block_form sheet book.witness s.known_users s.known_permissions spelling.witness
            same.witness;
      }
    where
      line : ℕ → Line
      line r = role_name r ∷ list_of (length spelling.permissions) (λ p. cell_text (book.roles.gives r p))

  pub written_has_form : So (form sheet (text_of_blocks (blocks_spelled spelling book)))
  written_has_form =
      form_intro sheet (text_of_blocks (blocks_spelled spelling book)) (rw blocks_of_book blocks_form)

-- ---- what is read

pub standing_read : (s : Standing) → standing_said (standing_word s) ≡ s
standing_read witnessed = refl
standing_read searched = refl
standing_read unsettled = refl

cell_read : (cell : Bool) → is_one (cell_text cell) ≡ cell
cell_read true = refl
cell_read false = refl

-- a cell of a line of a name and cells, in a block of such lines
cell_of_lines : (lines width : ℕ) (name : ℕ → Bytes) (cell : ℕ → ℕ → Bool) (i j : ℕ) → i < lines → j < width
    → is_one (field_at (line_at (list_of lines (λ i. name i ∷ list_of width (λ j. cell_text (cell i j)))) i) (suc j))
    ≡ cell i j
cell_of_lines lines width name cell i j h k =
    rw (
      getD_list_of lines (λ i. name i ∷ list_of width (λ j. cell_text (cell i j))) i [] h,
      getD_list_of width (λ j. cell_text (cell i j)) j [] k,
    )
    (cell_read (cell i j))

-- a witness line is read as its grant, in whatever case its names are spelled
grant_read : (sheet : Sheet) → GoodSheet sheet → (g : Grant) → g.user < user_count sheet
    → g.permission < permission_count sheet
    → (line : Line) → SpelledLine sheet g line
    → grant_of_line sheet line ≡ g
grant_read sheet good g h k line l =
    rw (
      l.fields,
      number_among_at sheet.users good.users g.user h l.user l.same_user,
      number_among_at sheet.permissions good.permissions g.permission k l.permission l.same_permission,
    )

grants_read : (sheet : Sheet) → GoodSheet sheet → (grants : List Grant) → Each (λ g. g.user < user_count sheet) grants
    → Each (λ g. g.permission < permission_count sheet) grants → (lines : List Line) → SpellsLines sheet grants lines
    → map (grant_of_line sheet) lines ≡ grants
grants_read sheet good [] h k [] e = refl
grants_read sheet good [] h k (line ∷ lines) e = absurd (omega (arith, ap length e))
grants_read sheet good (g ∷ grants) h k [] e = absurd (omega (arith, ap length e))
grants_read sheet good (g ∷ grants) h k (line ∷ lines) e =
    rw (
      grant_read sheet good g (h g (Memᴰ.head refl)) (k g (Memᴰ.head refl)) line
          (spelled_line sheet g line (head-eq_of_cons-eq e)),
      grants_read sheet good grants (λ f m. h f (Memᴰ.tail m)) (λ f m. k f (Memᴰ.tail m)) lines
          (tail-eq_of_cons-eq e),
    )

module _ (sheet : Sheet) (good : GoodSheet sheet) (book : Said) (s : Sayable sheet book) (spelling : Spelling)
    (same : SameNames spelling (sheet_spelling sheet book)) where
  blocks_say : SaysSame sheet (said_by_blocks sheet (blocks_spelled spelling book)) book
  unfolding blocks_spelled
  blocks_say =
      record {
        count = number_of_decimal book.count;
        bound = number_of_decimal book.bound;
        standing = standing_read book.standing;
        roles = length_list_of book.roles.count line;
        has = λ u r h k. cell_of_lines (length spelling.users) book.roles.count
            (λ u. get_or spelling.users u []) book.roles.has u r (rw users h) k;
        gives = λ r p h k. cell_of_lines book.roles.count (length spelling.permissions) role_name
            book.roles.gives r p h (rw permissions k);
        witness = grants_read sheet good book.witness s.known_users s.known_permissions spelling.witness
            same.witness;
      }
    where
      line : ℕ → Line
      line r = role_name r ∷ list_of (length spelling.permissions) (λ p. cell_text (book.roles.gives r p))

      users : length spelling.users ≡ user_count sheet
      users = spells_length spelling.users sheet.users same.users

      permissions : length spelling.permissions ≡ permission_count sheet
      permissions = spells_length spelling.permissions sheet.permissions same.permissions

  pub read_back : SaysSame sheet (said sheet (text_of_blocks (blocks_spelled spelling book))) book
  unfolding said
  read_back = rw (blocks_of_book sheet good book s spelling same) blocks_say
