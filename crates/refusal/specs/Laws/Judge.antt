-- The causes 3 to 9 in terms of what reading the first line and the user lines says. A text with some byte is its
-- first line and the lines after it, and every line has a first field. Assumes nothing.
use Rattle.std.specs.Prelude.{ℕ, suc, ◌≤◌, ◌<◌, ◌≡◌, refl, Bool, true, false, not, ◌&&◌, ◌||◌, eqb, leb, ltb}
use Rattle.std.specs.Prelude.{length, take, drop}
use Rattle.std.proofs.Common.{arith, sym, ap, ap₂, ◌∙◌, eqb-true, eq-eqb, leb-true, le-leb}
use Rattle.std.proofs.lemmas.Bool.{false≢true, lt-ltb, le-ltb}
use mathlib.Core.List.{List, [], ◌∷◌, map, tail}
use Rattle.spec.specs.Vocabulary.{all, repeats}
use Rattle.spec.specs.Limits.{sheet_limit, permission_limit, user_limit, grant_limit}
use Rattle.spec.specs.Text.{ascii, same_bytes, Bytes, Line, comma, line_feed, between, fields, lines, lines_of}
use Rattle.spec.specs.Text.{same_name}
use Rattle.spec.specs.Sheet.{first_field, sheet_of}
use Rattle.spec.specs.Refusal.{too_long, bad_bytes, bad_first_line, bad_line_count, has_name_length, bad_name}
use Rattle.spec.specs.Refusal.{uneven_line, bad_cell, name_twice, too_many_grants, refuse_if, refusal}
use Rattle.bits.specs.Truth.{same_truth}
use Rattle.lists.specs.Span.{span}
use Rattle.lists.specs.CutLaws.{parted_some}
use Rattle.lists.specs.TailLaws.{length_tail}
use Rattle.places.specs.Places.{part}
use Rattle.refusal.specs.FirstLine.{line_fields}
use Rattle.refusal.specs.Laws.Fields.{first_line_read}
use Rattle.refusal.specs.ReadLine.{ReadLine}
use Rattle.refusal.specs.Body.{body_of}
use Rattle.refusal.specs.Laws.Ones.{rows_ones}
use Rattle.refusal.specs.declared.line.LineRead.{LineRead}
use Rattle.refusal.specs.declared.body.Body.{Body}

-- ---- the causes in turn

-- the number of the first cause that applies, from a number on
abbrev pub causes_from_9 : Bytes → ℕ
causes_from_9 text = refuse_if (too_many_grants (sheet_of text)) 9 0

abbrev pub causes_from_8 : Bytes → ℕ
causes_from_8 text = refuse_if (name_twice (sheet_of text)) 8 (causes_from_9 text)

abbrev pub causes_from_7 : Bytes → ℕ
causes_from_7 text = refuse_if (bad_cell (lines_of text)) 7 (causes_from_8 text)

abbrev pub causes_from_6 : Bytes → ℕ
causes_from_6 text = refuse_if (uneven_line (lines_of text)) 6 (causes_from_7 text)

abbrev pub causes_from_5 : Bytes → ℕ
causes_from_5 text = refuse_if (bad_name (sheet_of text)) 5 (causes_from_6 text)

abbrev pub causes_from_4 : Bytes → ℕ
causes_from_4 text = refuse_if (bad_line_count (lines_of text)) 4 (causes_from_5 text)

abbrev pub causes_from_3 : Bytes → ℕ
causes_from_3 text = refuse_if (bad_first_line (lines_of text)) 3 (causes_from_4 text)

abbrev pub causes_from_2 : Bytes → ℕ
causes_from_2 text = refuse_if (bad_bytes text) 2 (causes_from_3 text)

pub refusal_in_turn : (text : Bytes) → refusal text ≡ refuse_if (too_long text) 1 (causes_from_2 text)
unfolding refusal
refusal_in_turn text = refl

-- ---- counts of fields and of fields after the first

same_after_first : (n m : ℕ) → eqb (suc n) (suc m) ≡ eqb n m
same_after_first n m =
    same_truth (eqb (suc n) (suc m)) (eqb n m)
    (λ p. eq-eqb n m (let e : suc n ≡ suc m = eqb-true (suc n) (suc m) p in omega arith))
    (λ p. eq-eqb (suc n) (suc m) (ap suc (eqb-true n m p)))

within_after_first : (low high n : ℕ) → between (suc low) (suc high) (suc n) ≡ between low high n
within_after_first low high n = ap₂ ◌&&◌ (least low n) (least n high)
  where
    least : (a b : ℕ) → leb (suc a) (suc b) ≡ leb a b
    least a b =
        same_truth (leb (suc a) (suc b)) (leb a b) (λ p. le-leb a b (omega (arith, leb-true (suc a) (suc b) p)))
        (λ p. le-leb (suc a) (suc b) (omega (arith, leb-true a b p)))

-- lines with some field have as many fields as asked where they have one less after the first
pub even_after_first : (width : ℕ) (parts : List Bytes)
    → all (λ line. eqb (length line) (suc width)) (map fields parts) ≡ all (λ line. eqb (length (tail line)) width)
    (map fields parts)
even_after_first width [] = refl
even_after_first width (line ∷ rest) = ap₂ ◌&&◌ here (even_after_first width rest)
  where
    here : eqb (length (fields line)) (suc width) ≡ eqb (length (tail (fields line))) width
    here =
        rw (length_tail (fields line) (parted_some (eqb comma) line)) at
        (same_after_first (length (tail (fields line))) width)

all_map : {A B : Type 0} (test : B → Bool) (f : A → B) (l : List A) → all test (map f l) ≡ all (λ a. test (f a)) l
all_map test f [] = refl
all_map test f (a ∷ rest) = ap (λ (t : Bool). test (f a) && t) (all_map test f rest)

-- ---- what was read of a text with some byte

-- the first line of a text with some byte is read
pub record HeadRead (text : Bytes) (head : LineRead) : Type 0 where
  pub some_byte : bad_bytes text ≡ false
  pub first : ReadLine text 0 head

-- the lines after it
abbrev pub lines_after : Bytes → LineRead → List Line
lines_after text head = lines_of (drop head.next text)

-- a text with some byte is its first line and those after it
lines_read : (text : Bytes) (head : LineRead) → bad_bytes text ≡ false → ReadLine text 0 head
    → lines_of text ≡ line_fields text ∷ lines_after text head
unfolding bad_bytes
lines_read [] head e read = absurd (false≢true (sym e))
lines_read (b ∷ rest) head e read =
    first_line_read b rest ∙ ap (λ (after : Bytes). line_fields (b ∷ rest) ∷ lines_of after) read.after

module _ (text : Bytes) (head : LineRead) (r : HeadRead text head) where
  pub text_lines : lines_of text ≡ line_fields text ∷ lines_after text head
  text_lines = lines_read text head r.some_byte r.first

  first_total : length (line_fields text) ≡ suc head.cells.count
  first_total =
      sym (length_tail (line_fields text) (parted_some (eqb comma) (take (span (eqb line_feed) text) text)))
      ∙ ap (λ cells. suc cells.count) (sym r.first.cells)

  pub cause_3 : bad_first_line (lines_of text)
      ≡ not (same_bytes (part 0 head.to text) (ascii "user") && between 1 permission_limit head.cells.count)
  unfolding bad_first_line
  cause_3 = rw (
    text_lines,
    first_total,
    within_after_first 1 permission_limit head.cells.count,
    r.first.name.reads,
  )

  pub cause_8 : name_twice (sheet_of text)
      ≡ (repeats same_name (map first_field (lines_after text head)) || repeats same_name (tail (line_fields text)))
  unfolding name_twice sheet_of
  cause_8 = rw text_lines

-- the causes 4 to 7 and 9, by what the first line and the lines after it say
pub record BodyTold (text : Bytes) (head : LineRead) (body : Body) : Type 0 where
  pub line_count : bad_line_count (lines_of text) ≡ not (between 1 user_limit body.users)
  pub names : bad_name (sheet_of text) ≡ not (head.cells.names && body.names)
  pub even : uneven_line (lines_of text) ≡ not body.even
  pub cells : bad_cell (lines_of text) ≡ not body.bits
  pub grants : too_many_grants (sheet_of text) ≡ ltb grant_limit body.ones

pub body_told : (text : Bytes) (head : LineRead) (r : HeadRead text head) (body : Body)
    → body ≡ body_of head.cells.count (lines_after text head) → BodyTold text head body
unfolding bad_line_count bad_name uneven_line bad_cell too_many_grants sheet_of
body_told text head r body others =
    let split = text_lines text head r in
    record {
      line_count = rw (split, others);
      names = rw (split, r.first.cells, others, all_map has_name_length first_field (lines_after text head));
      even = rw (split, first_total text head r, others)
          (ap not (even_after_first head.cells.count (lines (drop head.next text))));
      cells = rw (split, others);
      grants = rw (split, others, rows_ones 0 (lines_after text head));
    }

-- ---- the number, by what the tests say

pub long_number : (text : Bytes) → sheet_limit < length text → refusal text ≡ 1
unfolding too_long
long_number text long = rw (refusal_in_turn text, lt-ltb sheet_limit (length text) long)

pub past_long : (text : Bytes) → length text ≤ sheet_limit → refusal text ≡ causes_from_2 text
unfolding too_long
past_long text short = rw (refusal_in_turn text, le-ltb sheet_limit (length text) short)

not_and : (a b : Bool) → not (a && b) ≡ (not a || not b)
not_and true b = refl
not_and false b = refl

-- whether the first line is one
abbrev pub good_head : Bytes → LineRead → Bool
good_head text head = same_bytes (part 0 head.to text) (ascii "user") && between 1 permission_limit head.cells.count

module _ (text : Bytes) (head : LineRead) (short : length text ≤ sheet_limit) (fine : false ≡ bad_bytes text)
    (first : ReadLine text 0 head) where
  pub head_number : refusal text ≡ refuse_if (not (good_head text head)) 3 (causes_from_4 text)
  head_number =
      past_long text short ∙ rw (← fine, cause_3 text head (record { some_byte = sym fine; first = first }))

  -- the names that stand twice
  abbrev twice : Bool
  twice = repeats same_name (map first_field (lines_after text head)) || repeats same_name (tail (line_fields text))

  pub lines_number : (body : Body) → true ≡ good_head text head → body ≡ body_of head.cells.count (lines_after text head)
      → refusal text
      ≡ refuse_if (not (between 1 user_limit body.users)) 4
      (refuse_if (not head.cells.names || not body.names) 5
      (refuse_if (not body.even) 6
      (refuse_if (not body.bits) 7 (refuse_if twice 8 (refuse_if (ltb grant_limit body.ones) 9 0)))))
  lines_number body good others =
      let read : HeadRead text head = record { some_byte = sym fine; first = first } in
      let told : BodyTold text head body = body_told text head read body others in
      head_number
      ∙ rw (
        ← good,
        told.line_count,
        told.names ∙ not_and head.cells.names body.names,
        told.even,
        told.cells,
        cause_8 text head read,
        told.grants,
      )
