-- The counts and the word that a book prints. The first two lines of a text that begins with block 1 are those of block
-- 1, whatever follows; so a text prints one role count, one bound and one word, and a book that was written as it says
-- prints what it says.
use Rattle.std.specs.Prelude.{ℕ, ◌≡◌, List, [], ◌∷◌}
use Rattle.std.proofs.Common.{sym, ap, ◌∙◌}
use Rattle.spec.specs.Vocabulary.{joined}
use Rattle.spec.specs.Text.{Bytes, Line, lines_of, text_of}
use Rattle.spec.specs.Sheet.{Sheet}
use Rattle.spec.specs.Roles.{Standing}
use Rattle.spec.specs.Decimal.{decimal, number_of}
use Rattle.spec.specs.Book.{Said, empty_line, text_of_blocks, standing_word, counts_block, roles_block, users_block}
use Rattle.spec.specs.Book.{witness_block, Spelling, blocks_spelled}
use Rattle.spec.specs.Form.{line_at, field_at, standing_said}
use Rattle.spec.specs.Right.{OfForm}
use Rattle.spec.specs.OneChange.{Prints}
use Rattle.text.specs.Laws.Text.{front_lines}
use Rattle.text.specs.Laws.Line.{text_append}
use Rattle.decimal.specs.Laws.Decimal.{number_of_decimal}
use Rattle.right.specs.WrittenLines.{counts_lines}
use Rattle.right.specs.ReadBack.{standing_read}

-- the second line of a text that prints so
counts_line : {text : Bytes} {count bound : ℕ} {word : Standing} → Prints text count bound word
    → line_at (lines_of text) 1 ≡ decimal count ∷ decimal bound ∷ standing_word word ∷ []
counts_line {text} {count} {bound} {word} prints =
    ap (λ (bytes : Bytes). line_at (lines_of bytes) 1) prints.spelled
    ∙ ap (λ (all_lines : List Line). line_at all_lines 1)
    (front_lines (counts_block count bound word) prints.later
    (λ line m. (counts_lines count bound word line m).fields))

-- a text prints one role count, one bound and one word
pub record PrintSame (count other_count bound other_bound : ℕ) (word other_word : Standing) : Type 0 where
  pub counts : count ≡ other_count
  pub bounds : bound ≡ other_bound
  pub words : word ≡ other_word

same_number : (m n : ℕ) → decimal m ≡ decimal n → m ≡ n
same_number m n e = sym (number_of_decimal m) ∙ ap number_of e ∙ number_of_decimal n

pub prints_one : {text : Bytes} {count other_count bound other_bound : ℕ} {word other_word : Standing}
    → Prints text count bound word → Prints text other_count other_bound other_word
    → PrintSame count other_count bound other_bound word other_word
prints_one {count = count} {other_count} {bound} {other_bound} {word} {other_word} prints other =
    let same = sym (counts_line prints) ∙ counts_line other in
    record {
      counts = same_number count other_count (ap (λ (line : Line). field_at line 0) same);
      bounds = same_number bound other_bound (ap (λ (line : Line). field_at line 1) same);
      words =
          sym (standing_read word)
          ∙ ap (λ (line : Line). standing_said (field_at line 2)) same
          ∙ standing_read other_word;
    }

-- a written book prints what it says
prints_what_it_says : (spelling : Spelling) (says : Said)
    → Prints (text_of_blocks (blocks_spelled spelling says)) says.count says.bound says.standing
unfolding text_of_blocks blocks_spelled
prints_what_it_says spelling says =
    record {
      later = text_of (empty_line ∷ joined empty_line later_blocks);
      spelled = text_append (counts_block says.count says.bound says.standing)
          (empty_line ∷ joined empty_line later_blocks);
    }
  where
    later_blocks : List (List Line)
    later_blocks =
        roles_block spelling.permissions says.roles
        ∷ users_block spelling.users says.roles
        ∷ witness_block spelling.witness
        ∷ []

pub form_prints : {sheet : Sheet} {text : Bytes} {says : Said} → OfForm sheet text says
    → Prints text says.count says.bound says.standing
form_prints {says = says} of_form = rw of_form.written (prints_what_it_says of_form.spelling says)
