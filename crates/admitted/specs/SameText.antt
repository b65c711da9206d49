-- What says the same of a sheet is written as the same bytes, names spelled as in the sheet. A book spells counts,
-- state word and witness, which are equal, and cells only of the sheet's users, of its permissions and of the roles,
-- which are equal one by one.
use Rattle.std.specs.Prelude.{ℕ, ◌≡◌, List, ◌∷◌, map}
use Rattle.std.proofs.Math.Path.{ap}
use Rattle.std.proofs.Common.{◌∙◌}
use Rattle.spec.specs.Vocabulary.{list_of}
use Rattle.spec.specs.Text.{Line, ascii}
use Rattle.spec.specs.Sheet.{Sheet, Grant, user_count, permission_count, cell_text, user_name}
use Rattle.spec.specs.Book.{Said, Block, role_name, counts_block, roles_block, users_block, witness_block}
use Rattle.spec.specs.Book.{witness_line, text_of_blocks, blocks_spelled, blocks_saying, book_text}
use Rattle.lists.specs.ListOfLaws.{list_of_same}
use Rattle.right.specs.ReadBack.{SaysSame}

module _ (sheet : Sheet) (read written : Said) (same : SaysSame sheet read written) where
  same_counts : counts_block read.count read.bound read.standing
      ≡ counts_block written.count written.bound written.standing
  same_counts = rw (same.count, same.bound, same.standing)

  same_roles : roles_block sheet.permissions read.roles ≡ roles_block sheet.permissions written.roles
  same_roles =
      ap (λ (lines : Block). (ascii "role" ∷ sheet.permissions) ∷ lines)
      (ap (λ (n : ℕ). list_of n (line read)) same.roles
      ∙ list_of_same written.roles.count (line read) (line written) (λ r h.
      ap (λ (cells : Line). role_name r ∷ cells)
      (list_of_same (permission_count sheet) _ _ (λ p k. ap cell_text (same.gives r p h k)))))
    where
      line : Said → ℕ → Line
      line says r = role_name r ∷ list_of (permission_count sheet) (λ p. cell_text (says.roles.gives r p))

  same_users : users_block sheet.users read.roles ≡ users_block sheet.users written.roles
  same_users =
      ap (λ (n : ℕ). (ascii "user" ∷ list_of n role_name) ∷ list_of (user_count sheet) (line read n)) same.roles
      ∙ ap (λ (lines : Block). (ascii "user" ∷ list_of written.roles.count role_name) ∷ lines)
      (list_of_same (user_count sheet) (line read written.roles.count) (line written written.roles.count)
      (λ u h.
      ap (λ (cells : Line). user_name sheet u ∷ cells)
      (list_of_same written.roles.count _ _ (λ r k. ap cell_text (same.has u r h k)))))
    where
      line : Said → ℕ → ℕ → Line
      line says count u = user_name sheet u ∷ list_of count (λ r. cell_text (says.roles.has u r))

  same_witness : witness_block (map (witness_line sheet) read.witness)
      ≡ witness_block (map (witness_line sheet) written.witness)
  same_witness = ap (λ (l : List Grant). witness_block (map (witness_line sheet) l)) same.witness

  same_blocks : blocks_saying sheet read ≡ blocks_saying sheet written
  unfolding blocks_saying blocks_spelled
  same_blocks = rw (same_counts, same_roles, same_users, same_witness)

  -- the same said of a sheet is the same text
  pub same_said_same_text : book_text sheet read ≡ book_text sheet written
  unfolding book_text
  same_said_same_text = ap text_of_blocks same_blocks
