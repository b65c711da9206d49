-- The four blocks that say a book of a sheet are of the form, block by block, in whatever case its names are spelled:
-- each line has the fields that the form asks for, in its order, and a cell is spelled `0` or `1`.
use Rattle.std.specs.Prelude.{ℕ, suc, ◌≤◌, ◌<◌, ◌≡◌, refl, Bool, true, false, length, get_or}
use Rattle.std.proofs.Common.{ap, ◌∙◌}
use Rattle.std.proofs.Math.Bool.{So}
use mathlib.Core.List.{List, [], ◌∷◌, Memᴰ}
use Rattle.spec.specs.Vocabulary.{list_of}
use Rattle.spec.specs.Limits.{role_limit}
use Rattle.spec.specs.Text.{Bytes, Line, lowered}
use Rattle.spec.specs.Sheet.{Sheet, Grant, first_field, cell_text, user_count, permission_count, is_bit}
use Rattle.spec.specs.RoleSet.{RoleSet}
use Rattle.spec.specs.Roles.{Standing, witnessed, searched, unsettled}
use Rattle.spec.specs.Book.{standing_word, role_name, counts_block, roles_block, users_block, witness_block}
use Rattle.spec.specs.Form.{is_standing, line_at, counts_form, roles_form, users_form, witness_form}
use Rattle.lists.specs.TestLaws.{all_intro}
use Rattle.lists.specs.ListOfLaws.{length_list_of, getD_list_of, list_of_element}
use Rattle.decimal.specs.Laws.Count.{decimal_is_count}
use Rattle.right.specs.FormParts.{counts_form_intro, CellsLine, roles_form_intro, users_form_intro, WitnessLine}
use Rattle.right.specs.FormParts.{witness_form_intro}
use Rattle.right.specs.NameLaws.{known_at}
use Rattle.right.specs.Spelling.{Spells, spells_length, spells_at, SpellsLines, line_of}

standing_word_stands : (s : Standing) → So (is_standing (standing_word s))
standing_word_stands witnessed = refl
standing_word_stands searched = refl
standing_word_stands unsettled = refl

pub counts_block_form : (count bound : ℕ) (s : Standing) → So (counts_form (counts_block count bound s))
counts_block_form count bound s =
    counts_form_intro (counts_block count bound s)
    (record {
      two_lines = refl;
      heading = refl;
      three_fields = refl;
      role_count = decimal_is_count count;
      bound_count = decimal_is_count bound;
      standing = standing_word_stands s;
    })

cell_text_bit : (cell : Bool) → So (is_bit (cell_text cell))
cell_text_bit true = refl
cell_text_bit false = refl

-- a line of a field and a cell for each number below the count
cells_line_written : (name : Bytes) (count width : ℕ) (cell : ℕ → Bool) → count ≡ width
    → CellsLine (name ∷ list_of count (λ i. cell_text (cell i))) width
cells_line_written name count width cell e =
    record {
      fields = ap suc (length_list_of count (λ i. cell_text (cell i)) ∙ e);
      cells = all_intro is_bit (list_of count (λ i. cell_text (cell i))) each;
    }
  where
    each : (field : Bytes) → Memᴰ field (list_of count (λ i. cell_text (cell i))) → So (is_bit field)
    each field m = let r = list_of_element count (λ i. cell_text (cell i)) m
        in rw (← r.there) (cell_text_bit (cell r.place))

pub roles_block_form : (sheet : Sheet) (roles : RoleSet) → roles.count ≤ role_limit → (permissions : List Bytes)
    → Spells permissions sheet.permissions
    → So (roles_form sheet (roles_block permissions roles))
roles_block_form sheet roles few permissions same =
    roles_form_intro sheet (roles_block permissions roles)
    (record {
      heading = refl;
      permissions = same;
      few = rw (length_list_of roles.count line) few;
      named = λ r h. ap first_field (there r h);
      lines = λ r h.
          rw (there r h) (cells_line_written (role_name r) (length permissions) (permission_count sheet)
          (roles.gives r) (spells_length permissions sheet.permissions same));
    })
  where
    line : ℕ → Line
    line r = role_name r ∷ list_of (length permissions) (λ p. cell_text (roles.gives r p))

    there : (r : ℕ) → r < length (list_of roles.count line) → line_at (list_of roles.count line) r ≡ line r
    there r h = getD_list_of roles.count line r [] (rw (length_list_of roles.count line) at h)

pub users_block_form : (sheet : Sheet) (roles : RoleSet) (users : List Bytes) → Spells users sheet.users
    → So (users_form sheet roles.count (users_block users roles))
users_block_form sheet roles users same =
    users_form_intro sheet roles.count (users_block users roles)
    (record {
      heading = refl;
      a_line_each = length_list_of (length users) line ∙ total;
      named = λ u h. ap (λ (l : Line). lowered (first_field l)) (there u h) ∙ spells_at users sheet.users same u;
      lines = λ u h. rw (there u h) (cells_line_written (get_or users u []) roles.count roles.count
          (roles.has u) refl);
    })
  where
    line : ℕ → Line
    line u = get_or users u [] ∷ list_of roles.count (λ r. cell_text (roles.has u r))

    total : length users ≡ user_count sheet
    total = spells_length users sheet.users same

    there : (u : ℕ) → u < user_count sheet → line_at (list_of (length users) line) u ≡ line u
    there u h = getD_list_of (length users) line u [] (rw total h)

pub witness_block_form :
    (sheet : Sheet) (grants : List Grant)
    → ((g : Grant) → Memᴰ g grants → g.user < user_count sheet)
    → ((g : Grant) → Memᴰ g grants → g.permission < permission_count sheet)
    → (lines : List Line) → SpellsLines sheet grants lines
    → So (witness_form sheet (witness_block lines))
witness_block_form sheet grants users permissions lines spelled =
    witness_form_intro sheet (witness_block lines) (record { heading = refl; lines = each })
  where
    each : (line : Line) → Memᴰ line lines → WitnessLine sheet line
    each line m =
        let r = line_of sheet grants lines spelled line m in
        let l = r.spelled in
        rw l.fields
        (record {
          two_fields = refl;
          user = known_at sheet.users r.grant.user (users r.grant r.member) l.user l.same_user;
          permission = known_at sheet.permissions r.grant.permission (permissions r.grant r.member)
              l.permission l.same_permission;
        })
