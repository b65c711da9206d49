-- What it means that the causes of a sheet's lines, numbers 3, 4, 6 and 7, do not apply: each cause is a test, and
-- the facts are what the test asks of the first line or of every later one, in both directions. Assumes nothing.
use Rattle.std.specs.Prelude.{suc, ◌≤◌, ◌≡◌, ◌↔◌, Bool, false, ◌&&◌, not, eqb, length}
use Rattle.std.proofs.Common.{ap, eqb-true, eq-eqb}
use Rattle.std.proofs.Math.Bool.{So}
use mathlib.Core.List.{List, tail, Memᴰ}
use Rattle.std.proofs.lemmas.Bool.{not-false}
use Rattle.spec.specs.Vocabulary.{all}
use Rattle.spec.specs.Limits.{permission_limit, user_limit}
use Rattle.spec.specs.Text.{ascii, same_bytes, Bytes, Line, between}
use Rattle.spec.specs.Sheet.{first_field, first_line, is_bit}
use Rattle.spec.specs.Refusal.{bad_first_line, bad_line_count, uneven_line, bad_cell}
use Rattle.bits.specs.Truth.{and_intro, and_left, and_right}
use Rattle.lists.specs.TestLaws.{all_intro, all_elim, same_bytes_equal, equal_same_bytes}
use Rattle.text.specs.Laws.Byte.{between_intro, between_low, between_high}

-- 3: the first line is `user` and some permissions, no more than the limit
pub record GoodFirstLine (lines : List Line) : Type 0 where
  pub says_user : first_field (first_line lines) ≡ ascii "user"
  pub some_permission : 2 ≤ length (first_line lines)
  pub few_permissions : length (first_line lines) ≤ suc permission_limit

pub good_first_line : (lines : List Line) → (bad_first_line lines ≡ false) ↔ GoodFirstLine lines
unfolding bad_first_line
good_first_line lines = (read, written)
  where
    says : Bool
    says = same_bytes (first_field (first_line lines)) (ascii "user")

    sized : Bool
    sized = between 2 (suc permission_limit) (length (first_line lines))

    read : bad_first_line lines ≡ false → GoodFirstLine lines
    read e =
        let both : So (says && sized) = not-false (says && sized) e in
        let right : So sized = and_right says sized both in
        record {
          says_user = same_bytes_equal (first_field (first_line lines)) (ascii "user") (and_left says sized both);
          some_permission = between_low 2 (suc permission_limit) (length (first_line lines)) right;
          few_permissions = between_high 2 (suc permission_limit) (length (first_line lines)) right;
        }

    written : GoodFirstLine lines → bad_first_line lines ≡ false
    written g =
        ap not (and_intro says sized (equal_same_bytes g.says_user)
        (between_intro 2 (suc permission_limit) (length (first_line lines)) g.some_permission g.few_permissions))

-- 4: some user line, and no more than the limit
pub record GoodLineCount (lines : List Line) : Type 0 where
  pub some_user : 1 ≤ length (tail lines)
  pub few_users : length (tail lines) ≤ user_limit

pub good_line_count : (lines : List Line) → (bad_line_count lines ≡ false) ↔ GoodLineCount lines
unfolding bad_line_count
good_line_count lines = (read, written)
  where
    sized : Bool
    sized = between 1 user_limit (length (tail lines))

    read : bad_line_count lines ≡ false → GoodLineCount lines
    read e =
        let right : So sized = not-false sized e in
        record {
          some_user = between_low 1 user_limit (length (tail lines)) right;
          few_users = between_high 1 user_limit (length (tail lines)) right;
        }

    written : GoodLineCount lines → bad_line_count lines ≡ false
    written g = ap not (between_intro 1 user_limit (length (tail lines)) g.some_user g.few_users)

-- 6: every user line has as many fields as the first line
abbrev pub EvenLines : List Line → Type 0
EvenLines lines = (line : Line) → Memᴰ line (tail lines) → length line ≡ length (first_line lines)

pub even_lines : (lines : List Line) → (uneven_line lines ≡ false) ↔ EvenLines lines
unfolding uneven_line
even_lines lines = (read, written)
  where
    even : Line → Bool
    even line = eqb (length line) (length (first_line lines))

    read : uneven_line lines ≡ false → EvenLines lines
    read e line m =
        eqb-true (length line) (length (first_line lines))
        (all_elim even (tail lines) (not-false (all even (tail lines)) e) m)

    written : EvenLines lines → uneven_line lines ≡ false
    written h = ap not (all_intro even (tail lines) (λ line m. eq-eqb (length line) (length (first_line lines))
        (h line m)))

-- 7: every field after a user name is `0` or `1`
abbrev pub BitLines : List Line → Type 0
BitLines lines =
    (line : Line) → Memᴰ line (tail lines) → (field : Bytes) → Memᴰ field (tail line) → So (is_bit field)

pub bit_lines : (lines : List Line) → (bad_cell lines ≡ false) ↔ BitLines lines
unfolding bad_cell
bit_lines lines = (read, written)
  where
    bits : Line → Bool
    bits line = all is_bit (tail line)

    read : bad_cell lines ≡ false → BitLines lines
    read e line m field n =
        all_elim is_bit (tail line) (all_elim bits (tail lines) (not-false (all bits (tail lines)) e) m) n

    written : BitLines lines → bad_cell lines ≡ false
    written h = ap not (all_intro bits (tail lines) (λ line m. all_intro is_bit (tail line) (h line m)))
