-- The first line of an accepted sheet behind its `user`: each permission behind a comma, then the line feed. No line
-- feed stands in a name, so that is what stands there up to the first one.
use Rattle.std.specs.Prelude.{ℕ, ◌+◌, ◌-◌, ◌≤◌, ◌≡◌, ◌⊎◌, length, get_or, drop}
use Rattle.std.proofs.Common.{arith, sym, ap, ◌∙◌, inl, inr, length-append, length-drop, take_at}
use Rattle.std.proofs.Math.Bool.{So}
use mathlib.Core.List.Memᴰ
use mathlib.Core.List.{[], ◌∷◌, ◌++◌, append_assoc, Memᴰ}
use Rattle.spec.specs.Vocabulary.{joined}
use Rattle.spec.specs.Text.{ascii, Bytes, Line, comma, line_feed, line_text, text_of}
use Rattle.spec.specs.Sheet.{Sheet, sheet_of}
use Rattle.spec.specs.Rules.{user_lines}
use Rattle.spec.specs.Refusal.{accepted}
use Rattle.lists.specs.Listed.{listed}
use Rattle.text.specs.Line.{behind_comma, line_end}
use Rattle.text.specs.Laws.Line.{line_parts_of}
use Rattle.text.specs.Laws.Text.{Field, Fields, line_without_feed}
use Rattle.rules.specs.SheetLines.{sheet_text_lines}
use Rattle.rules.specs.Accepted.{accepted_keeps}
use Rattle.rules.specs.AcceptedFacts.{name_field}
use Rattle.places.specs.Places.{part}
use Rattle.steps.specs.Laws.Step.{stands_place}
use Rattle.steps.specs.Ended.{Ended, Unended, ended_once, ended_stands}
use Rattle.book_lines.specs.Lines.{permissions_line}

-- the permissions behind a first word
pub heading_parts : (word : Bytes) (sheet : Sheet)
    → line_text (word ∷ sheet.permissions) ≡ word ++ permissions_line sheet
heading_parts word sheet =
    let each = listed (length sheet.permissions) (λ i. behind_comma (get_or sheet.permissions i [])) in
    line_parts_of word sheet.permissions ∙ append_assoc word each line_end
    ∙ ap (λ (l : Bytes). word ++ l) (sym (line_parts_of [] sheet.permissions))

module _ (text : Bytes) (p : So (accepted text)) where
  -- the line with nothing in place of `user`
  abbrev names : Line
  names = [] ∷ (sheet_of text).permissions

  abbrev later : Bytes
  later = text_of (user_lines (sheet_of text).users (sheet_of text).rows)

  behind_user : drop 4 text ≡ line_text names ++ later
  behind_user =
      ap (drop 4) ((accepted_keeps text p).written ∙ sheet_text_lines (sheet_of text))
      ∙ rw (heading_parts (ascii "user") (sheet_of text))

  fields : Fields names
  fields =
      record {
        some_field = omega arith;
        each = λ field m. each field (Memᴰ.append_cases ([] ∷ []) m);
      }
    where
      each : (field : Bytes) → Memᴰ field ([] ∷ []) ⊎ Memᴰ field (sheet_of text).permissions → Field field
      each field (inl m) =
          rw (Memᴰ.eq_of_singleton m)
          (record { no_comma = λ b n. absurd (Memᴰ.not-nil n); no_line_feed = λ b n. absurd (Memᴰ.not-nil n) })
      each field (inr m) = name_field field ((accepted_keeps text p).permission_names.each field m)

  up_to_feed : drop 4 text ≡ joined comma names ++ line_feed ∷ later
  up_to_feed = behind_user ∙ append_assoc (joined comma names) line_end later

  pub user_there : 4 ≤ length text
  user_there = omega (
    arith,
    ap length up_to_feed,
    length-append (joined comma names) (line_feed ∷ later),
    length-drop 4 text,
  )

  pub some_feed : Unended text 4 line_feed → ⊥
  some_feed u = u.none (joined comma names) later up_to_feed

  pub permissions_there : {end : ℕ} → Ended text 4 line_feed end
      → part 4 (end + 1) text ≡ permissions_line (sheet_of text)
  permissions_there {end} e =
      let same = (ended_once e (joined comma names) later (line_without_feed names fields) up_to_feed).0 in
      let size : length (line_text names) ≡ end + 1 - 4 =
      rw same (omega (arith, stands_place (ended_stands e))) in
      rw behind_user (take_at (line_text names) later (end + 1 - 4) size)
