-- The test of a book's form, taken apart: what it says of the text, of each block and of each line, as facts, and
-- back from the facts to the test.
use Rattle.std.specs.Prelude.{ℕ, suc, ◌≤◌, ◌<◌, ◌≡◌, refl, Bool, ◌&&◌, eqb, length}
use Rattle.std.proofs.Common.{arith, ap, eqb-true, eq-eqb, leb-true, le-leb}
use Rattle.std.proofs.Math.Bool.{So}
use Rattle.std.proofs.lemmas.Bool.{false≢true}
use mathlib.Core.List.{List, [], ◌∷◌, tail, Memᴰ, head-eq_of_cons-eq, tail-eq_of_cons-eq}
use Rattle.spec.specs.Vocabulary.{every_below, all, same_by, list_of}
use Rattle.spec.specs.Limits.{role_limit}
use Rattle.spec.specs.Text.{ascii, same_bytes, Bytes, Line, line_feed, last_byte, lowered, same_name}
use Rattle.spec.specs.Sheet.{Sheet, first_field, first_line, user_count, permission_count, is_bit, user_name}
use Rattle.spec.specs.Decimal.{is_count}
use Rattle.spec.specs.Book.{role_name, counts_heading, witness_heading, Block}
use Rattle.spec.specs.Form.{blocks_of, block_at, line_at, field_at, is_standing, counts_form, cells_line, roles_form}
use Rattle.spec.specs.Form.{users_form, known, witness_form, form}
use Rattle.bits.specs.Truth.{and_intro, and_left, and_right}
use Rattle.bits.specs.Laws.Below.{every_below_intro, every_below_elim}
use Rattle.lists.specs.TestLaws.{all_intro, all_elim, same_bytes_equal, same_bytes_refl, equal_same_bytes}
use Rattle.lists.specs.SameLaws.{same_by_equal, same_by_reflexive}
use Rattle.text.specs.Laws.Lowered.{same_name_elim, same_name_intro}
use Rattle.right.specs.Spelling.{Spells}

-- ---- equal lines, and equal lists of names

same_lines_equal : (a b : Line) → So (same_by same_bytes a b) → a ≡ b
same_lines_equal = same_by_equal same_bytes same_bytes_equal

equal_same_lines : (a b : Line) → a ≡ b → So (same_by same_bytes a b)
equal_same_lines a b e = rw e (same_by_reflexive same_bytes same_bytes_refl b)

same_names_spell : (a b : List Bytes) → So (same_by same_name a b) → Spells a b
same_names_spell [] [] e = refl
same_names_spell [] (y ∷ b) e = absurd (false≢true e)
same_names_spell (x ∷ a) [] e = absurd (false≢true e)
same_names_spell (x ∷ a) (y ∷ b) e =
    let here : lowered x ≡ lowered y = same_name_elim x y (and_left (same_name x y) (same_by same_name a b) e) in
    let later : Spells a b = same_names_spell a b (and_right (same_name x y) (same_by same_name a b) e) in
    cc

spell_same_names : (a b : List Bytes) → Spells a b → So (same_by same_name a b)
spell_same_names [] [] e = refl
spell_same_names [] (y ∷ b) e = absurd (omega (arith, ap length e))
spell_same_names (x ∷ a) [] e = absurd (omega (arith, ap length e))
spell_same_names (x ∷ a) (y ∷ b) e =
    and_intro (same_name x y) (same_by same_name a b) (same_name_intro x y (head-eq_of_cons-eq e))
    (spell_same_names a b (tail-eq_of_cons-eq e))

-- ---- block 1

-- its line of names, then roles, bound and state
pub record CountsForm (block : Block) : Type 0 where
  pub two_lines : length block ≡ 2
  pub heading : line_at block 0 ≡ counts_heading
  pub three_fields : length (line_at block 1) ≡ 3
  pub role_count : So (is_count (field_at (line_at block 1) 0))
  pub bound_count : So (is_count (field_at (line_at block 1) 1))
  pub standing : So (is_standing (field_at (line_at block 1) 2))

pub counts_form_elim : (block : Block) → So (counts_form block) → CountsForm block
unfolding counts_form
counts_form_elim block e =
    record {
      two_lines = eqb-true (length block) 2 (search (and_left, and_right));
      heading = same_lines_equal (line_at block 0) counts_heading (search (and_left, and_right));
      three_fields = eqb-true (length (line_at block 1)) 3 (search (and_left, and_right));
      role_count = search (and_left, and_right);
      bound_count = search (and_left, and_right);
      standing = search (and_left, and_right);
    }

pub counts_form_intro : (block : Block) → CountsForm block → So (counts_form block)
unfolding counts_form
counts_form_intro block f =
    let two = eq-eqb (length block) 2 f.two_lines in
    let heading = equal_same_lines (line_at block 0) counts_heading f.heading in
    let three = eq-eqb (length (line_at block 1)) 3 f.three_fields in
    search and_intro

-- ---- a line of a name and cells

-- a line of a field and as many cells as asked
pub record CellsLine (line : Line) (count : ℕ) : Type 0 where
  pub fields : length line ≡ suc count
  pub cells : So (all is_bit (tail line))

cells_line_elim : (line : Line) (count : ℕ) → So (cells_line line count) → CellsLine line count
cells_line_elim line count e =
    record {
      fields = eqb-true (length line) (suc count) (search (and_left));
      cells = search (and_right);
    }

cells_line_intro : (line : Line) (count : ℕ) → CellsLine line count → So (cells_line line count)
cells_line_intro line count f =
    let fields = eq-eqb (length line) (suc count) f.fields in
    search and_intro

-- ---- block 2

-- `role` and the sheet's permissions, then the lines of the roles in order
pub record RolesForm (sheet : Sheet) (block : Block) : Type 0 where
  pub heading : first_field (first_line block) ≡ ascii "role"
  pub permissions : Spells (tail (first_line block)) sheet.permissions
  pub few : length (tail block) ≤ role_limit
  pub named : (r : ℕ) → r < length (tail block) → first_field (line_at (tail block) r) ≡ role_name r
  pub lines : (r : ℕ) → r < length (tail block) → CellsLine (line_at (tail block) r) (permission_count sheet)

-- the two tests of the line of role r: its name, and its cells
abbrev role_named : Block → ℕ → Bool
role_named block r = same_bytes (first_field (line_at (tail block) r)) (role_name r)

abbrev role_cells : Sheet → Block → ℕ → Bool
role_cells sheet block r = cells_line (line_at (tail block) r) (permission_count sheet)

role_line_test : Sheet → Block → ℕ → Bool
role_line_test sheet block r = role_named block r && role_cells sheet block r

pub roles_form_elim : (sheet : Sheet) (block : Block) → So (roles_form sheet block) → RolesForm sheet block
unfolding roles_form role_line_test
roles_form_elim sheet block e =
    let each : So (every_below (length (tail block)) (role_line_test sheet block)) = search (and_right) in
    record {
      heading = same_bytes_equal (first_field (first_line block)) (ascii "role") (search (and_left, and_right));
      permissions = same_names_spell (tail (first_line block)) sheet.permissions (search (and_left, and_right));
      few = leb-true (length (tail block)) role_limit (search (and_left, and_right));
      named = λ r h.
          same_bytes_equal (first_field (line_at (tail block) r)) (role_name r)
          (and_left (role_named block r) (role_cells sheet block r)
          (every_below_elim (length (tail block)) (role_line_test sheet block) each h));
      lines = λ r h.
          cells_line_elim (line_at (tail block) r) (permission_count sheet)
          (and_right (role_named block r) (role_cells sheet block r)
          (every_below_elim (length (tail block)) (role_line_test sheet block) each h));
    }

pub roles_form_intro : (sheet : Sheet) (block : Block) → RolesForm sheet block → So (roles_form sheet block)
unfolding roles_form role_line_test
roles_form_intro sheet block f =
    let heading = equal_same_bytes f.heading in
    let permissions = spell_same_names (tail (first_line block)) sheet.permissions f.permissions in
    let few = le-leb (length (tail block)) role_limit f.few in
    let each =
    every_below_intro (length (tail block)) (role_line_test sheet block)
    (λ r h. and_intro (role_named block r) (role_cells sheet block r) (equal_same_bytes (f.named r h))
    (cells_line_intro (line_at (tail block) r) (permission_count sheet) (f.lines r h))) in
    search and_intro

-- ---- block 3

-- `user` and the roles, then the lines of the sheet's users in order
pub record UsersForm (sheet : Sheet) (roles : ℕ) (block : Block) : Type 0 where
  pub heading : first_line block ≡ ascii "user" ∷ list_of roles role_name
  pub a_line_each : length (tail block) ≡ user_count sheet
  pub named : (u : ℕ) → u < user_count sheet → lowered (first_field (line_at (tail block) u)) ≡ lowered
      (user_name sheet u)
  pub lines : (u : ℕ) → u < user_count sheet → CellsLine (line_at (tail block) u) roles

-- the two tests of the line of user u: its name, and its cells
abbrev user_named : Sheet → Block → ℕ → Bool
user_named sheet block u = same_name (first_field (line_at (tail block) u)) (user_name sheet u)

abbrev user_cells : ℕ → Block → ℕ → Bool
user_cells roles block u = cells_line (line_at (tail block) u) roles

user_line_test : Sheet → ℕ → Block → ℕ → Bool
user_line_test sheet roles block u = user_named sheet block u && user_cells roles block u

pub users_form_elim : (sheet : Sheet) (roles : ℕ) (block : Block) → So (users_form sheet roles block)
    → UsersForm sheet roles block
unfolding users_form user_line_test
users_form_elim sheet roles block e =
    let each : So (every_below (user_count sheet) (user_line_test sheet roles block)) = search (and_right) in
    record {
      heading = same_lines_equal (first_line block) (ascii "user" ∷ list_of roles role_name)
          (search (and_left, and_right));
      a_line_each = eqb-true (length (tail block)) (user_count sheet) (search (and_left, and_right));
      named = λ u h.
          same_name_elim (first_field (line_at (tail block) u)) (user_name sheet u)
          (and_left (user_named sheet block u) (user_cells roles block u)
          (every_below_elim (user_count sheet) (user_line_test sheet roles block) each h));
      lines = λ u h.
          cells_line_elim (line_at (tail block) u) roles
          (and_right (user_named sheet block u) (user_cells roles block u)
          (every_below_elim (user_count sheet) (user_line_test sheet roles block) each h));
    }

pub users_form_intro : (sheet : Sheet) (roles : ℕ) (block : Block) → UsersForm sheet roles block
    → So (users_form sheet roles block)
unfolding users_form user_line_test
users_form_intro sheet roles block f =
    let heading = equal_same_lines (first_line block) (ascii "user" ∷ list_of roles role_name) f.heading in
    let a_line_each = eq-eqb (length (tail block)) (user_count sheet) f.a_line_each in
    let each =
    every_below_intro (user_count sheet) (user_line_test sheet roles block)
    (λ u h. and_intro (user_named sheet block u) (user_cells roles block u)
    (same_name_intro (first_field (line_at (tail block) u)) (user_name sheet u) (f.named u h))
    (cells_line_intro (line_at (tail block) u) roles (f.lines u h))) in
    search and_intro

-- ---- block 4

-- a user and a permission of the sheet
pub record WitnessLine (sheet : Sheet) (line : Line) : Type 0 where
  pub two_fields : length line ≡ 2
  pub user : So (known sheet.users (field_at line 0))
  pub permission : So (known sheet.permissions (field_at line 1))

-- its line of names, then such lines
pub record WitnessForm (sheet : Sheet) (block : Block) : Type 0 where
  pub heading : first_line block ≡ witness_heading
  pub lines : (line : Line) → Memᴰ line (tail block) → WitnessLine sheet line

witness_line_test : Sheet → Line → Bool
witness_line_test sheet line =
    eqb (length line) 2 && known sheet.users (field_at line 0) && known sheet.permissions (field_at line 1)

witness_line_elim : (sheet : Sheet) (line : Line) → So (witness_line_test sheet line) → WitnessLine sheet line
unfolding witness_line_test
witness_line_elim sheet line e =
    record {
      two_fields = eqb-true (length line) 2 (search (and_left, and_right));
      user = search (and_left, and_right);
      permission = search (and_left, and_right);
    }

witness_line_intro : (sheet : Sheet) (line : Line) → WitnessLine sheet line → So (witness_line_test sheet line)
unfolding witness_line_test
witness_line_intro sheet line f =
    let two = eq-eqb (length line) 2 f.two_fields in
    search and_intro

pub witness_form_elim : (sheet : Sheet) (block : Block) → So (witness_form sheet block) → WitnessForm sheet block
unfolding witness_form witness_line_test
witness_form_elim sheet block e =
    let each : So (all (witness_line_test sheet) (tail block)) = search (and_right) in
    record {
      heading = same_lines_equal (first_line block) witness_heading (search (and_left));
      lines = λ line m. witness_line_elim sheet line (all_elim (witness_line_test sheet) (tail block) each m);
    }

pub witness_form_intro : (sheet : Sheet) (block : Block) → WitnessForm sheet block → So (witness_form sheet block)
unfolding witness_form witness_line_test
witness_form_intro sheet block f =
    let heading = equal_same_lines (first_line block) witness_heading f.heading in
    let each = all_intro (witness_line_test sheet) (tail block) (λ line m. witness_line_intro sheet line
    (f.lines line m)) in
    search and_intro

-- ---- the text

-- the form of a text with these blocks
pub record FormOf (sheet : Sheet) (text : Bytes) (blocks : List Block) : Type 0 where
  pub ended : last_byte text ≡ line_feed
  pub four_blocks : length blocks ≡ 4
  pub counts : So (counts_form (block_at blocks 0))
  pub roles : So (roles_form sheet (block_at blocks 1))
  pub users : So (users_form sheet (length (tail (block_at blocks 1))) (block_at blocks 2))
  pub witness : So (witness_form sheet (block_at blocks 3))

pub form_elim : (sheet : Sheet) (text : Bytes) → So (form sheet text) → FormOf sheet text (blocks_of text)
unfolding form
form_elim sheet text e =
    record {
      ended = eqb-true (last_byte text) line_feed (search (and_left, and_right));
      four_blocks = eqb-true (length (blocks_of text)) 4 (search (and_left, and_right));
      counts = search (and_left, and_right);
      roles = search (and_left, and_right);
      users = search (and_left, and_right);
      witness = search (and_left, and_right);
    }

pub form_intro : (sheet : Sheet) (text : Bytes) → FormOf sheet text (blocks_of text) → So (form sheet text)
unfolding form
form_intro sheet text f =
    let ended = eq-eqb (last_byte text) line_feed f.ended in
    let four = eq-eqb (length (blocks_of text)) 4 f.four_blocks in
    search and_intro
