-- What reading the field at a cursor leaves of a line. A field ends at the first comma or line feed: after a comma
-- the fields of the line go on, after a line feed and at the end of the text there is none. The laws follow the bytes
-- up to there, one by one. Assumes nothing.
use Prim.Native.Nat.{ℕ, suc, ◌+◌, ◌-◌, ◌≤◌, ◌<◌, min}
use Rattle.std.proofs.Math.Numerals.{add-one}
use native.Mathlib.Omega.{arith}
use Rattle.std.specs.Prelude.{◌≡◌, refl, Bool, true, false, not, [], ◌∷◌, map, eqb, length, get_or, take, drop}
use Rattle.std.proofs.Common.{sym, ap, ◌∙◌, ⊎_elim, eqb-true, ne_eqb, drop-drop, get_or-drop}
use Rattle.std.proofs.lemmas.Bool.{eqb-false}
use Rattle.std.proofs.Math.ListN.{length-drop, get_or-eq_default}
use Rattle.spec.specs.Text.{Bytes, Line, comma, line_feed, fields, lines_of}
use Rattle.bits.specs.Truth.{passes_or_fails, not_both}
use Rattle.bits.specs.Laws.Below.{below_or_from}
use Rattle.lists.specs.Span.{span, span_within, ended_first}
use Rattle.reader.specs.Fields.{field_from, field_read}
use Rattle.text.specs.Line.{separator}
use Rattle.places.specs.Places.{part}
use Rattle.refusal.specs.FirstLine.{line_fields, after_line}
use Rattle.reader.specs.declared.cursor.FieldRead.{FieldRead}

-- the fields of a line that follow one that was read: none where it was the last
abbrev pub later_fields : Bool → Bytes → Line
later_fields true text = []
later_fields false text = line_fields text

-- what follows the line of a field that was read
abbrev pub after_field : Bool → Bytes → Bytes
after_field true text = text
after_field false text = after_line text

-- a text with some byte is its first line and the lines that follow
pub first_line_read : (b : ℕ) (rest : Bytes) → lines_of (b ∷ rest) ≡ line_fields (b ∷ rest) ∷ lines_of
    (after_line (b ∷ rest))
first_line_read b rest = ap (map fields) (ended_first (eqb line_feed) b rest)

-- where the first field ends, and whether it is the last of its line
abbrev field_length : Bytes → ℕ
field_length text = span separator text

abbrev is_last : Bytes → Bool
is_last text = not (eqb (get_or text (field_length text) 0) comma)

abbrev after_first : Bytes → Bytes
after_first text = drop (suc (field_length text)) text

-- the first field of a line, and what follows it
record FirstField (text : Bytes) : Type 0 where
  line : line_fields text ≡ take (field_length text) text ∷ later_fields (is_last text) (after_first text)
  after : after_line text ≡ after_field (is_last text) (after_first text)

first_field_read : (text : Bytes) → FirstField text
first_field_read [] = record { line = refl; after = refl }
first_field_read (b ∷ rest) = choose (first_field_read rest)
  where
    at_comma : b ≡ comma → FirstField (b ∷ rest)
    at_comma e = rw e (record { line = refl; after = refl })

    at_feed : b ≡ line_feed → FirstField (b ∷ rest)
    at_feed e = rw e (record { line = refl; after = refl })

    other : FirstField rest → eqb b comma ≡ false → eqb b line_feed ≡ false → FirstField (b ∷ rest)
    other f c l =
        let c' : eqb comma b ≡ false = ne_eqb comma b (λ e. eqb-false b comma c (sym e)) in
        let l' : eqb line_feed b ≡ false = ne_eqb line_feed b (λ e. eqb-false b line_feed l (sym e)) in
        record { line = rw (l', c', c, l, f.line); after = rw (l', c, l, f.after) }

    choose : FirstField rest → FirstField (b ∷ rest)
    choose f =
        ⊎_elim (λ p. at_comma (eqb-true b comma p))
        (λ c. ⊎_elim (λ p. at_feed (eqb-true b line_feed p)) (λ l. other f c l) (passes_or_fails (eqb b line_feed)))
        (passes_or_fails (eqb b comma))

-- what the field read at a cursor says of the line from there on
pub record FieldStep (text : Bytes) (at : ℕ) (f : FieldRead) : Type 0 where
  pub starts : f.from ≡ at
  pub forward : at ≤ f.to
  pub within : f.to ≤ length text
  pub next : f.next.at ≡ suc f.to
  pub more : f.last ≡ false → f.to < length text
  pub line : line_fields (drop at text) ≡ part f.from f.to text ∷ later_fields f.last (drop f.next.at text)
  pub after : after_line (drop at text) ≡ after_field f.last (drop f.next.at text)

module _ (text : Bytes) (at : ℕ) (h : at ≤ length text) where
  n : ℕ
  n = span separator (drop at text)

  byte : get_or (drop at text) n 0 ≡ get_or text (at + n) 0
  byte = get_or-drop at text n 0

  rest : drop (suc n) (drop at text) ≡ drop (at + n + 1) text
  rest =
      let same : at + suc n ≡ at + n + 1 = omega arith in
      drop-drop (suc n) at text ∙ rw same

  taken : at + n - at ≡ n
  taken = omega arith

  ends_within : at + n ≤ length text
  unfolding n
  ends_within = omega (arith, span_within separator (drop at text), length-drop at text)

  comma_within : not (eqb (get_or text (at + n) 0) comma) ≡ false → at + n < length text
  comma_within e = ⊎_elim (λ l. l) past (below_or_from (at + n) (length text))
    where
      past : length text ≤ at + n → at + n < length text
      past l = absurd (not_both (rw (get_or-eq_default text 0 l)) e)

  pub field_from_step : FieldStep text at (field_from text at)
  unfolding n field_from
  field_from_step =
      record {
        starts = refl;
        forward = omega arith;
        within = ends_within;
        next = add-one _;
        more = comma_within;
        line = rw (taken, ← byte, ← rest) (first_field_read (drop at text)).line;
        after = rw (← byte, ← rest) (first_field_read (drop at text)).after;
      }

  pub field_step : FieldStep text at (field_read text at)
  unfolding field_read
  field_step =
      let e : min at (length text) ≡ at = omega arith in
      rw e field_from_step
