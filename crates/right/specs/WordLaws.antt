-- The words of the book's form are fields: each has a byte, and all of its bytes are bytes of a name, so none is a
-- comma or a line feed.
use Rattle.std.specs.Prelude.{ℕ, suc, ◌≤◌, ◌<◌, ◌^◌, ◌≡◌, refl, Bool, true, false, ◌||◌, ◌∷◌, eqb, length}
use Prim.Native.Char.{code}
use Rattle.std.proofs.Common.{arith}
use Rattle.std.proofs.Math.Bool.{So}
use Rattle.spec.specs.Vocabulary.{all}
use Rattle.spec.specs.Text.{Bytes, between, name_byte}
use Rattle.spec.specs.Sheet.{cell_text}
use Rattle.spec.specs.Roles.{Standing, witnessed, searched, unsettled}
use Rattle.spec.specs.Decimal.{decimal, is_digit, is_count}
use Rattle.spec.specs.Book.{standing_word, role_name}
use Rattle.bits.specs.Truth.{or_left, or_right}
use Rattle.lists.specs.TestLaws.{all_intro, all_elim}
use Rattle.text.specs.Laws.Byte.{name_byte_no_comma, name_byte_no_line_feed}
use Rattle.text.specs.Laws.Text.{Field}
use Rattle.decimal.specs.Laws.Decimal.{decimal_digits, decimal_length}
use Rattle.decimal.specs.Laws.Count.{count_digits}

-- ---- bytes of a name

pub name_bytes_field : (field : Bytes) → So (all name_byte field) → Field field
name_bytes_field field e =
    record {
      no_comma = λ b m. name_byte_no_comma b (all_elim name_byte field e m);
      no_line_feed = λ b m. name_byte_no_line_feed b (all_elim name_byte field e m);
    }

-- a digit is a byte of a name
pub digit_name_byte : (b : ℕ) → So (is_digit b) → So (name_byte b)
unfolding name_byte
digit_name_byte b e =
    third (between (code "A") (code "Z") b) (between (code "a") (code "z") b) (is_digit b) (eqb b (code "-"))
    (eqb b (code "."))
    (eqb b (code "_")) e
  where
    third : (a b c d e f : Bool) → So c → So (a || b || c || d || e || f)
    third a b c d e f p =
        or_left (a || b || c || d || e) f
        (or_left (a || b || c || d) e (or_left (a || b || c) d (or_right (a || b) c p)))

pub digits_name_bytes : (a : Bytes) → So (all is_digit a) → So (all name_byte a)
digits_name_bytes a e = all_intro name_byte a (λ b m. digit_name_byte b (all_elim is_digit a e m))

pub count_field : (a : Bytes) → So (is_count a) → Field a
count_field a e = name_bytes_field a (digits_name_bytes a (count_digits a e))

-- ---- the words

pub standing_word_field : (s : Standing) → Field (standing_word s)
unfolding name_byte
standing_word_field witnessed = name_bytes_field (standing_word witnessed) refl
standing_word_field searched = name_bytes_field (standing_word searched) refl
standing_word_field unsettled = name_bytes_field (standing_word unsettled) refl

pub cell_text_field : (cell : Bool) → Field (cell_text cell)
unfolding name_byte
cell_text_field true = name_bytes_field (cell_text true) refl
cell_text_field false = name_bytes_field (cell_text false) refl

-- ---- the names of roles

-- a role name in its two parts
pub role_name_parts : (r : ℕ) → role_name r ≡ code "R" ∷ decimal (suc r)
unfolding role_name
role_name_parts r = refl

pub role_name_bytes : (r : ℕ) → So (all name_byte (role_name r))
unfolding name_byte
role_name_bytes r = rw (role_name_parts r) (digits_name_bytes (decimal (suc r)) (decimal_digits (suc r)))

pub role_name_field : (r : ℕ) → Field (role_name r)
role_name_field r = name_bytes_field (role_name r) (role_name_bytes r)

pub role_name_some : (r : ℕ) → 1 ≤ length (role_name r)
role_name_some r = rw (role_name_parts r) (omega arith)

pub role_name_length : (k r : ℕ) → suc r < 10 ^ suc k → length (role_name r) ≤ suc (suc k)
role_name_length k r h = rw (role_name_parts r) (omega (arith, decimal_length k (suc r) h))
