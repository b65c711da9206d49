-- A line that was written has bytes, and no line feed before its end: its fields are a name and cells, in which none
-- stands, and they are joined by commas.
use Rattle.std.specs.Prelude.{ℕ, ◌≡◌, refl, Bool, false, eqb}
use Rattle.std.proofs.Common.{arith, ◌∙◌, ⊎_elim}
use mathlib.Core.List.Memᴰ
use mathlib.Core.List.{List, [], ◌∷◌, ◌++◌, map, Memᴰ}
use Rattle.spec.specs.Vocabulary.{empty, joined}
use Rattle.spec.specs.Text.{Bytes, comma, line_feed, line_text}
use Rattle.spec.specs.Sheet.{cell_text}
use Rattle.spec.specs.Newcomer.{feed_before_end}
use Rattle.bits.specs.Truth.{eqb_comm, or_fails}
use Rattle.lists.specs.CutLaws.{Free}
use Rattle.text.specs.Laws.Text.{Field, Fields, line_without_feed}
use Rattle.right.specs.WordLaws.{cell_text_field}

-- a last byte behind others
some_with_last : (front : Bytes) (last : ℕ) → empty (front ++ last ∷ []) ≡ false
some_with_last [] last = refl
some_with_last (b ∷ front) last = refl

first_no_feed : (b : ℕ) (rest : Bytes) → Free (eqb line_feed) (b ∷ rest) → eqb b line_feed ≡ false
first_no_feed b rest free = eqb_comm b line_feed ∙ free b (Memᴰ.head refl)

no_feed_before_last : (front : Bytes) (last : ℕ) → Free (eqb line_feed) front
    → feed_before_end (front ++ last ∷ []) ≡ false
no_feed_before_last [] last free = refl
no_feed_before_last (b ∷ []) last free = or_fails (eqb b line_feed) false (first_no_feed b [] free) refl
no_feed_before_last (b ∷ next ∷ front) last free =
    or_fails (eqb b line_feed) (feed_before_end (next ∷ front ++ last ∷ [])) (first_no_feed b (next ∷ front) free)
    (no_feed_before_last (next ∷ front) last (λ c m. free c (Memᴰ.tail m)))

-- a name and cells are fields that a line can hold
user_fields : (name : Bytes) (row : List Bool) → Field name → Fields (name ∷ map cell_text row)
user_fields name row named = record { some_field = omega arith; each = each }
  where
    each : (field : Bytes) → Memᴰ field (name ∷ map cell_text row) → Field field
    each field m =
        ⊎_elim (λ e. rw e named)
        (λ n. let cell = Memᴰ.of_map cell_text row n in rw (← cell.2) (cell_text_field cell.0))
        (Memᴰ.cases_cons m)

module _ (name : Bytes) (row : List Bool) where
  pub written_line_some : empty (line_text (name ∷ map cell_text row)) ≡ false
  written_line_some = some_with_last (joined comma (name ∷ map cell_text row)) line_feed

  pub written_line_ends_once : Field name → feed_before_end (line_text (name ∷ map cell_text row)) ≡ false
  written_line_ends_once named =
      no_feed_before_last (joined comma (name ∷ map cell_text row)) line_feed
      (line_without_feed (name ∷ map cell_text row) (user_fields name row named))
