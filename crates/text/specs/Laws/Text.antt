-- Reading lines and fields undoes writing them, and writing undoes reading. Lines are cut at line feeds and fields at
-- commas, so both follow from the laws of cutting, first for the fields of each line and then for the lines of the
-- text. Assumes nothing.
use Rattle.std.specs.Prelude.{ℕ, ◌≤◌, ◌≡◌, refl, eqb, length}
use Rattle.std.proofs.Common.{sym, ap, ◌∙◌, ⊎_elim, eqb-true, eq-eqb}
use Rattle.std.proofs.Math.Bool.{So}
use mathlib.Core.List.Memᴰ
use mathlib.Core.List.{List, [], ◌∷◌, ◌++◌, map, map-map, append_assoc, append-nil, Memᴰ}
use Rattle.spec.specs.Vocabulary.{joined, concat}
use Rattle.spec.specs.Text.{last_byte, Bytes, Line, comma, line_feed, lines, fields, lines_of, line_text, text_of}
use Rattle.lists.specs.JoinLaws.{joined_element, map_fixed}
use Rattle.lists.specs.CutLaws.{Free, closed, ending, ended_front, append_ending, parted_joined, joined_parted}
use Rattle.lists.specs.CutLaws.{parted_some, concat_ended, parted_element, ended_element, parted_parts, ended_parts}

-- a field that a line can hold: neither comma nor line feed stands in it
pub record Field (field : Bytes) : Type 0 where
  pub no_comma : Free (eqb comma) field
  pub no_line_feed : Free (eqb line_feed) field

-- a line that a text can hold: at least one field, and each such a field
pub record Fields (line : Line) : Type 0 where
  pub some_field : 1 ≤ length line
  pub each : (field : Bytes) → Memᴰ field line → Field field

-- lines that a text can hold
abbrev pub Lines : List Line → Type 0
Lines all_lines = (line : Line) → Memᴰ line all_lines → Fields line

only : (b c : ℕ) → So (eqb b c) → c ≡ b
only b c e = sym (eqb-true b c e)

-- ---- written, then read

-- a line that was written is read as its fields
pub fields_of_line : (line : Line) → Fields line → fields (joined comma line) ≡ line
fields_of_line line h =
    parted_joined (eqb comma) comma refl line h.some_field (λ field m. (h.each field m).no_comma)

-- no line feed stands in a line
pub line_without_feed : (line : Line) → Fields line → Free (eqb line_feed) (joined comma line)
line_without_feed line h b m =
    ⊎_elim (λ e. rw e) (λ r. (h.each r.part r.member).no_line_feed b r.element) (joined_element comma line m)

-- a line at the front of a text is its first line
front_line : (line : Line) (later : Bytes) → Fields line → lines_of (line_text line ++ later) ≡ line ∷ lines_of later
front_line line later h =
    ap (λ (text : Bytes). lines_of text) (append_ending line_feed (joined comma line) later)
    ∙ ap (map fields) (ended_front (eqb line_feed) line_feed refl (joined comma line) later (line_without_feed line h))
    ∙ ap (λ (first : Line). first ∷ lines_of later) (fields_of_line line h)

-- lines that were written are read as they were, whatever stands behind them
pub front_lines : (all_lines : List Line) (later : Bytes) → Lines all_lines
    → lines_of (text_of all_lines ++ later) ≡ all_lines ++ lines_of later
front_lines [] later h = refl
front_lines (line ∷ rest) later h =
    ap (λ (text : Bytes). lines_of text) (append_assoc (line_text line) (text_of rest) later)
    ∙ front_line line (text_of rest ++ later) (h line (Memᴰ.head refl))
    ∙ ap {B = List Line} (λ more. line ∷ more) (front_lines rest later (λ other m. h other (Memᴰ.tail m)))

pub read_as_written : (all_lines : List Line) → Lines all_lines → lines_of (text_of all_lines) ≡ all_lines
read_as_written all_lines h =
    ap (λ (text : Bytes). lines_of text) (sym (append-nil (text_of all_lines)))
    ∙ front_lines all_lines [] h
    ∙ append-nil all_lines

-- ---- read, then written

text_of_joined : (all_lines : List Line) → text_of all_lines ≡ concat
    (map (ending line_feed) (map (joined comma) all_lines))
text_of_joined all_lines = ap concat (sym (map-map (ending line_feed) (joined comma) all_lines))

-- a text with nothing after its last line feed is what is written of its lines
pub written_as_read : (text : Bytes) → So (closed (eqb line_feed) text) → text_of (lines_of text) ≡ text
written_as_read text e =
    text_of_joined (lines_of text)
    ∙ ap (λ (parts : List Bytes). concat (map (ending line_feed) parts))
    (map-map (joined comma) fields (lines text)
    ∙ map_fixed (λ line. joined comma (fields line)) (lines text) (λ line m. joined_parted (eqb comma) comma
    (only comma) line))
    ∙ concat_ended (eqb line_feed) line_feed (only line_feed) text e

-- a text that ends in a line feed has nothing after the last line
pub ends_in_feed : (text : Bytes) → last_byte text ≡ line_feed → So (closed (eqb line_feed) text)
ends_in_feed [] e = refl
ends_in_feed (b ∷ []) e = eq-eqb line_feed b (sym e)
ends_in_feed (b ∷ next ∷ rest) e = ends_in_feed (next ∷ rest) e

-- so a text that ends in a line feed is what is written of its lines
pub written_as_read_to_feed : (text : Bytes) → last_byte text ≡ line_feed → text_of (lines_of text) ≡ text
written_as_read_to_feed text e = written_as_read text (ends_in_feed text e)

-- ---- what is read

-- a byte of a field that is read is a byte of the text
pub read_in_text : (text : Bytes) (line : Line) → Memᴰ line (lines_of text) → (field : Bytes)
    → Memᴰ field line → (b : ℕ) → Memᴰ b field → Memᴰ b text
read_in_text text line m field n b k =
    let r = Memᴰ.of_map fields (lines text) m in
    let inner = parted_element (eqb comma) r.0 field (rw (← r.2) at n) b k in
    (ended_element (eqb line_feed) text r.0 r.1 b inner.member).member

-- what is read are lines that a text can hold
pub read_lines : (text : Bytes) → Lines (lines_of text)
read_lines text line m =
    let r = Memᴰ.of_map fields (lines text) m in
    record {
      some_field = rw (← r.2) (parted_some (eqb comma) r.0);
      each = λ field n.
          record {
            no_comma = parted_parts (eqb comma) r.0 field (rw (← r.2) at n);
            no_line_feed = λ b k.
                ended_parts (eqb line_feed) text r.0 r.1 b
                (parted_element (eqb comma) r.0 field (rw (← r.2) at n) b k).member;
          };
    }
