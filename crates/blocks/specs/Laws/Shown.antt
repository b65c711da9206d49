-- The lines and blocks that rows of words say, part by part in the order in which they are written. Assumes nothing.
use Rattle.std.specs.Prelude.{ℕ, ◌≡◌, List, ◌∷◌, ◌++◌}
use Rattle.std.proofs.Common.{sym, ap, ◌∙◌}
use Rattle.spec.specs.Vocabulary.{list_of}
use Rattle.spec.specs.Text.{ascii, Bytes, line_text, text_of}
use Rattle.spec.specs.Sheet.{Sheet, user_count, permission_count, cell_text, user_name}
use Rattle.spec.specs.Book.{role_name}
use Rattle.lists.specs.Listed.{listed}
use Rattle.cell_rows.specs.Rows.{cell}
use Rattle.book_lines.specs.Lines.{named_line}
use Rattle.book_lines.specs.RowsSaid.{role_heading, role_line, shown_roles, user_line, shown_users}
use Rattle.text.specs.Line.{behind_comma, line_end}
use Rattle.text.specs.Laws.Line.{line_parts, block_parts}

pub role_line_parts : (gives : List ℕ) (permissions r : ℕ)
    → line_text (role_line gives permissions r) ≡ named_line (role_name r) gives r permissions
role_line_parts gives permissions r = line_parts (role_name r) permissions (λ p. cell_text (cell gives r p))

pub user_line_parts : (sheet : Sheet) (has : List ℕ) (count u : ℕ)
    → line_text (user_line sheet has count u) ≡ named_line (user_name sheet u) has u count
user_line_parts sheet has count u = line_parts (user_name sheet u) count (λ r. cell_text (cell has u r))

-- the same of a name that is the user's
pub user_line_named : (sheet : Sheet) (has : List ℕ) (count u : ℕ) {name : Bytes} → name ≡ user_name sheet u
    → named_line name has u count ≡ line_text (user_line sheet has count u)
user_line_named sheet has count u e =
    ap (λ (n : Bytes). named_line n has u count) e
    ∙ sym (user_line_parts sheet has count u)

-- the names of the heading of block 3 behind its first word
abbrev pub role_fields : ℕ → Bytes
role_fields count = listed count (λ r. behind_comma (role_name r))

-- the lines of block 2 and of block 3 behind their headings
abbrev pub role_lines : List ℕ → ℕ → ℕ → Bytes
role_lines gives permissions count = listed count (λ r. line_text (role_line gives permissions r))

abbrev pub user_lines : Sheet → List ℕ → ℕ → Bytes
user_lines sheet has count = listed (user_count sheet) (λ u. line_text (user_line sheet has count u))

pub roles_parts : (sheet : Sheet) (gives : List ℕ) (count : ℕ)
    → text_of (shown_roles sheet gives count)
    ≡ line_text (role_heading sheet) ++ role_lines gives (permission_count sheet) count
roles_parts sheet gives count = block_parts (role_heading sheet) count (role_line gives (permission_count sheet))

pub users_parts : (sheet : Sheet) (has : List ℕ) (count : ℕ)
    → text_of (shown_users sheet has count)
    ≡ ((ascii "user" ++ role_fields count) ++ line_end) ++ user_lines sheet has count
users_parts sheet has count =
    block_parts (ascii "user" ∷ list_of count role_name) (user_count sheet) (user_line sheet has count)
    ∙ ap (λ (l : Bytes). l ++ user_lines sheet has count) (line_parts (ascii "user") count role_name)
