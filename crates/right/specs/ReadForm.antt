-- A text of the form is the very text that is written for what was read from it, its names spelled as they stand in
-- it: the form leaves no byte of a line open but the counts, the state word, the cells and the names, and each of the
-- others is what is written for what it says.
use Rattle.std.specs.Prelude.{ℕ, suc, ◌<◌, ◌≡◌, refl, ◌||◌, length, get_or}
use Rattle.std.proofs.Common.{arith, sym, ap, ◌∙◌, ⊎_elim, ext_get_or}
use Rattle.std.proofs.Math.Bool.{So}
use mathlib.Core.List.{List, [], ◌∷◌, map, map-map, tail}
use Rattle.std.proofs.lemmas.List.{length-map}
use Rattle.std.proofs.Math.ListN.{get_or-map}
use Rattle.spec.specs.Vocabulary.{list_of}
use Rattle.spec.specs.Text.{ascii, same_bytes, Bytes, Line, lowered}
use Rattle.spec.specs.Sheet.{Sheet, first_field, first_line, is_one, cell_text, user_count, permission_count, is_bit}
use Rattle.spec.specs.RoleSet.{RoleSet}
use Rattle.spec.specs.Roles.{witnessed, searched, unsettled}
use Rattle.spec.specs.Decimal.{number_of}
use Rattle.spec.specs.Book.{standing_word, role_name, Block, text_of_blocks, counts_block, roles_block, users_block}
use Rattle.spec.specs.Book.{witness_line, witness_block, Spelling, sheet_spelling, blocks_spelled}
use Rattle.spec.specs.Form.{blocks_of, block_at, line_at, field_at, is_standing, grant_of_line, standing_said, form}
use Rattle.spec.specs.Form.{said_by_blocks, said}
use Rattle.spec.specs.Right.{SameNames}
use Rattle.bits.specs.Truth.{or_cases}
use Rattle.lists.specs.TestLaws.{all_elim, member_at, same_bytes_equal}
use Rattle.lists.specs.JoinLaws.{map_same}
use Rattle.lists.specs.ListOfLaws.{list_of_places, list_of_same}
use Rattle.lists.specs.EachLaws.{each_mapped}
use Rattle.decimal.specs.Laws.Count.{count_is_decimal}
use Rattle.right.specs.BlockLaws.{blocks_written_as_read}
use Rattle.right.specs.FormParts.{CountsForm, counts_form_elim, CellsLine, RolesForm, roles_form_elim}
use Rattle.right.specs.FormParts.{UsersForm, users_form_elim, WitnessLine, WitnessForm, witness_form_elim}
use Rattle.right.specs.FormParts.{FormOf, form_elim}
use Rattle.right.specs.WrittenLines.{Sayable}
use Rattle.right.specs.NameLaws.{known_stands}
use Rattle.right.specs.Spelling.{Spells, spells_length, SpellsLines}

-- a list of a known length, by its places
by_places : {A : Type 0} (l : List A) (d : A) (n : ℕ) → length l ≡ n → l ≡ list_of n (λ i. get_or l i d)
by_places l d n e = sym (list_of_places l d) ∙ ap (λ k. list_of k (λ i. get_or l i d)) e

-- lists of one first element and one rest
same_first_and_rest : {A : Type 0} {a b : A} {l m : List A} → a ≡ b → l ≡ m → a ∷ l ≡ b ∷ m
same_first_and_rest p q = cc

-- ---- block 1

standing_written : (word : Bytes) → So (is_standing word) → standing_word (standing_said word) ≡ word
standing_written word e =
    ⊎_elim
    (λ p.
    ⊎_elim (λ q. rw (same_bytes_equal word (standing_word witnessed) q))
    (λ q. rw (same_bytes_equal word (standing_word searched) q))
    (or_cases (same_bytes word (standing_word witnessed)) (same_bytes word (standing_word searched)) p))
    (λ p. rw (same_bytes_equal word (standing_word unsettled) p))
    (or_cases (same_bytes word (standing_word witnessed) || same_bytes word (standing_word searched))
    (same_bytes word (standing_word unsettled)) e)

counts_written : (block : Block) → CountsForm block
    → block
    ≡ counts_block (number_of (field_at (line_at block 1) 0)) (number_of (field_at (line_at block 1) 1))
    (standing_said (field_at (line_at block 1) 2))
counts_written block f =
    by_places block [] 2 f.two_lines
    ∙ rw (
      f.heading,
      by_places (line_at block 1) [] 3 f.three_fields,
      count_is_decimal (field_at (line_at block 1) 0) f.role_count,
      count_is_decimal (field_at (line_at block 1) 1) f.bound_count,
      standing_written (field_at (line_at block 1) 2) f.standing,
    )

-- ---- lines of a name and cells

bit_written : (field : Bytes) → So (is_bit field) → field ≡ cell_text (is_one field)
bit_written field e =
    ⊎_elim (λ p. rw (same_bytes_equal field (ascii "0") p)) (λ p. rw (same_bytes_equal field (ascii "1") p))
    (or_cases (same_bytes field (ascii "0")) (is_one field) e)

cells_written : (line : Line) (name : Bytes) (count : ℕ) → first_field line ≡ name → CellsLine line count
    → line ≡ name ∷ list_of count (λ j. cell_text (is_one (field_at line (suc j))))
cells_written [] name count e f = absurd (omega (arith, f.fields))
cells_written (field ∷ rest) name count e f =
    let same : length rest ≡ count = omega (arith, f.fields) in
    let cells : rest ≡ list_of count (λ j. cell_text (is_one (get_or rest j []))) =
    by_places rest [] count same
    ∙ list_of_same count (λ j. get_or rest j []) (λ j. cell_text (is_one (get_or rest j [])))
    (λ j h. bit_written (get_or rest j []) (all_elim is_bit rest f.cells (member_at rest j [] (omega arith)))) in
    same_first_and_rest e cells

-- lines of names and cells
lines_written : (lines : List Line) (count width : ℕ) (name : ℕ → Bytes) → length lines ≡ count
    → ((i : ℕ) → i < count → first_field (line_at lines i) ≡ name i)
    → ((i : ℕ) → i < count → CellsLine (line_at lines i) width)
    → lines ≡ list_of count (λ i. name i ∷ list_of width (λ j. cell_text (is_one (field_at (line_at lines i) (suc j)))))
lines_written lines count width name e named h =
    by_places lines [] count e
    ∙ list_of_same count (line_at lines)
    (λ i. name i ∷ list_of width (λ j. cell_text (is_one (field_at (line_at lines i) (suc j)))))
    (λ i l. cells_written (line_at lines i) (name i) width (named i l) (h i l))

-- ---- block 2

-- the roles that two blocks say
roles_said : Block → Block → RoleSet
roles_said roles users =
    record {
      count = length (tail roles);
      has = λ u r. is_one (field_at (line_at (tail users) u) (suc r));
      gives = λ r p. is_one (field_at (line_at (tail roles) r) (suc p));
    }

roles_written : (sheet : Sheet) (block users : Block) → RolesForm sheet block
    → block ≡ roles_block (tail (first_line block)) (roles_said block users)
unfolding roles_said
roles_written sheet [] users f = absurd (let z : ◌≡◌ {A = ℕ} 0 1 = cc in omega arith)
roles_written sheet ([] ∷ lines) users f = absurd (let z : ◌≡◌ {A = ℕ} 0 1 = cc in omega arith)
roles_written sheet ((word ∷ names) ∷ lines) users f =
    same_first_and_rest (same_first_and_rest f.heading refl)
    (rw (spells_length names sheet.permissions f.permissions)
    (lines_written lines (length lines) (permission_count sheet) role_name refl f.named f.lines))

-- ---- block 3

-- the names of the users in a block
abbrev users_in : Block → List Bytes
users_in block = map first_field (tail block)

user_in : (lines : List Line) (u : ℕ) → first_field (line_at lines u) ≡ get_or (map first_field lines) u []
user_in lines u = sym (get_or-map first_field lines u [])

users_written : (sheet : Sheet) (roles block : Block) → UsersForm sheet (length (tail roles)) block
    → block ≡ users_block (users_in block) (roles_said roles block)
unfolding roles_said
users_written sheet roles [] f = absurd (let z : ◌≡◌ {A = ℕ} 0 1 = cc in omega arith)
users_written sheet roles (heading ∷ lines) f =
    same_first_and_rest f.heading
    (rw (length-map lines first_field)
    (lines_written lines (length lines) (length (tail roles)) (λ u. get_or (map first_field lines) u []) refl
    (λ u h. user_in lines u) (λ u h. f.lines u (omega (arith, f.a_line_each)))))

users_spelled : (sheet : Sheet) (roles : ℕ) (block : Block) → UsersForm sheet roles block
    → Spells (users_in block) sheet.users
users_spelled sheet roles block f =
    let lines : List Line = tail block in
    ext_get_or [] (map lowered (map first_field lines)) (map lowered sheet.users)
    (length-map (map first_field lines) lowered ∙ length-map lines first_field ∙ f.a_line_each
    ∙ sym (length-map sheet.users lowered))
    (λ u h.
    get_or-map lowered (map first_field lines) u []
    ∙ ap lowered (sym (user_in lines u))
    ∙ f.named u (omega (
      arith,
      h,
      length-map (map first_field lines) lowered,
      length-map lines first_field,
      f.a_line_each,
    ))
    ∙ sym (get_or-map lowered sheet.users u []))

-- ---- block 4

witness_line_spelled : (sheet : Sheet) (line : Line) → WitnessLine sheet line
    → map lowered line ≡ map lowered (witness_line sheet (grant_of_line sheet line))
witness_line_spelled sheet line f =
    ap (map lowered) (by_places line [] 2 f.two_fields)
    ∙ same_first_and_rest (sym (known_stands sheet.users (field_at line 0) f.user).there)
    (same_first_and_rest (sym (known_stands sheet.permissions (field_at line 1) f.permission).there) refl)

witness_written : (sheet : Sheet) (block : Block) → WitnessForm sheet block → block ≡ witness_block (tail block)
witness_written sheet [] f = absurd (let z : ◌≡◌ {A = ℕ} 0 1 = cc in omega arith)
witness_written sheet (heading ∷ lines) f = same_first_and_rest f.heading refl

witness_spelled : (sheet : Sheet) (block : Block) → WitnessForm sheet block
    → SpellsLines sheet (map (grant_of_line sheet) (tail block)) (tail block)
witness_spelled sheet block f =
    map_same (map lowered) (λ line. map lowered (witness_line sheet (grant_of_line sheet line))) (tail block)
    (λ line m. witness_line_spelled sheet line (f.lines line m))
    ∙ sym (map-map (λ line. map lowered (witness_line sheet line)) (grant_of_line sheet) (tail block))
    ∙ sym (map-map (map lowered) (witness_line sheet) (map (grant_of_line sheet) (tail block)))

-- ---- the text

-- the names as they stand in blocks
abbrev spelling_in : List Block → Spelling
spelling_in blocks =
    record {
      permissions = tail (first_line (block_at blocks 1));
      users = users_in (block_at blocks 2);
      witness = tail (block_at blocks 3);
    }

blocks_written : (sheet : Sheet) (text : Bytes) (blocks : List Block) → FormOf sheet text blocks
    → blocks ≡ blocks_spelled (spelling_in blocks) (said_by_blocks sheet blocks)
unfolding blocks_spelled roles_said
blocks_written sheet text blocks f =
    by_places blocks [] 4 f.four_blocks
    ∙ same_first_and_rest (counts_written (block_at blocks 0) (counts_form_elim (block_at blocks 0) f.counts))
    (same_first_and_rest (roles_written sheet (block_at blocks 1) (block_at blocks 2)
    (roles_form_elim sheet (block_at blocks 1) f.roles))
    (same_first_and_rest
    (users_written sheet (block_at blocks 1) (block_at blocks 2)
    (users_form_elim sheet (length (tail (block_at blocks 1))) (block_at blocks 2) f.users))
    (same_first_and_rest (witness_written sheet (block_at blocks 3) (witness_form_elim sheet (block_at blocks 3)
    f.witness)) refl)))

-- the names of a text as they stand in it
pub spelling_read : Bytes → Spelling
spelling_read text = spelling_in (blocks_of text)

pub form_is_written : (sheet : Sheet) (text : Bytes) → So (form sheet text)
    → text ≡ text_of_blocks (blocks_spelled (spelling_read text) (said sheet text))
unfolding said spelling_read
form_is_written sheet text e =
    let f = form_elim sheet text e in
    sym (blocks_written_as_read text f.ended) ∙ ap text_of_blocks (blocks_written sheet text (blocks_of text) f)

-- they are the sheet's, each in its own case
pub form_is_spelled : (sheet : Sheet) (text : Bytes) → So (form sheet text)
    → SameNames (spelling_read text) (sheet_spelling sheet (said sheet text))
unfolding said spelling_read
form_is_spelled sheet text e =
    let f = form_elim sheet text e in
    let blocks = blocks_of text in
    record {
      permissions = (roles_form_elim sheet (block_at blocks 1) f.roles).permissions;
      users = users_spelled sheet (length (tail (block_at blocks 1))) (block_at blocks 2)
          (users_form_elim sheet (length (tail (block_at blocks 1))) (block_at blocks 2) f.users);
      witness = witness_spelled sheet (block_at blocks 3) (witness_form_elim sheet (block_at blocks 3) f.witness);
    }

pub form_is_sayable : (sheet : Sheet) (text : Bytes) → So (form sheet text) → Sayable sheet (said sheet text)
unfolding said
form_is_sayable sheet text e =
    let f = form_elim sheet text e in
    let roles = roles_form_elim sheet (block_at (blocks_of text) 1) f.roles in
    let witness = witness_form_elim sheet (block_at (blocks_of text) 3) f.witness in
    record {
      few_roles = roles.few;
      known_users =
          each_mapped (λ g. g.user < user_count sheet) (grant_of_line sheet) (tail (block_at (blocks_of text) 3))
          (λ line m. (known_stands sheet.users (field_at line 0) (witness.lines line m).user).within);
      known_permissions =
          each_mapped (λ g. g.permission < permission_count sheet) (grant_of_line sheet)
          (tail (block_at (blocks_of text) 3))
          (λ line m. (known_stands sheet.permissions (field_at line 1) (witness.lines line m).permission).within);
    }
