-- A line of names in other case: commas and line feeds stay as they are, and no other byte becomes one. So bytes that
-- are such a line with `A-Z` read as `a-z` are a line of as many names, each of them equal to the one at its place.
use Rattle.std.specs.Prelude.{ℕ, ◌≡◌, refl, false}
use Prim.Native.Char.{code}
use Rattle.std.proofs.Common.{sym, ap, ◌∙◌}
use mathlib.Core.List.{List, [], ◌∷◌, ◌++◌, map, map-append, append_assoc, nil≢cons}
use mathlib.Core.List.{head-eq_of_cons-eq, tail-eq_of_cons-eq}
use Rattle.spec.specs.Vocabulary.{concat}
use Rattle.spec.specs.Text.{Bytes, comma, line_feed, between, line_text, lower, lowered}
use Rattle.text.specs.Line.{behind_comma, line_end}
use Rattle.text.specs.Laws.Line.{joined_parts}
use Rattle.text.specs.Laws.Lowered.{lower_stays, lower_only}

-- names, a comma before each
abbrev pub fields_text : List Bytes → Bytes
fields_text names = concat (map behind_comma names)

-- a line of names behind a word
pub heading_fields : (word : Bytes) (names : List Bytes)
    → line_text (word ∷ names) ≡ word ++ (fields_text names ++ line_end)
heading_fields word names =
    ap (λ (l : Bytes). l ++ line_end) (joined_parts word names) ∙ append_assoc word (fields_text names) line_end

-- ---- from names to bytes

lowered_fields : (names : List Bytes) → lowered (fields_text names) ≡ fields_text (map lowered names)
lowered_fields [] = refl
lowered_fields (name ∷ rest) =
    rw (map-append lower name (fields_text rest), lowered_fields rest, lower_stays comma refl)

pub fields_same : (names others : List Bytes) → map lowered names ≡ map lowered others
    → lowered (fields_text names ++ line_end) ≡ lowered (fields_text others ++ line_end)
fields_same names others same =
    rw (
      map-append lower (fields_text names) line_end,
      map-append lower (fields_text others) line_end,
      lowered_fields names,
      lowered_fields others,
      same,
    )

-- ---- from bytes to names

-- bytes that are two parts, one after the other, each in other case
record TwoParts (a b bytes : Bytes) : Type 0 where
  first : Bytes
  second : Bytes
  there : bytes ≡ first ++ second
  same_first : lowered first ≡ lowered a
  same_second : lowered second ≡ lowered b

two_parts : (a b bytes : Bytes) → lowered bytes ≡ lowered (a ++ b) → TwoParts a b bytes
two_parts [] b bytes e = record { first = []; second = bytes; there = refl; same_first = refl; same_second = e }
two_parts (c ∷ a) b [] e = absurd (nil≢cons e)
two_parts (c ∷ a) b (d ∷ bytes) e =
    let s = two_parts a b bytes (tail-eq_of_cons-eq e) in
    record {
      first = d ∷ s.first;
      second = s.second;
      there = ap (λ (l : Bytes). d ∷ l) s.there;
      same_first = ap (λ (b : ℕ). b ∷ lowered s.first) (head-eq_of_cons-eq e)
          ∙ ap (λ (l : Bytes). lower c ∷ l) s.same_first;
      same_second = s.same_second;
    }

-- a separator and what follows it, in other case
record Separated (s : ℕ) (rest bytes : Bytes) : Type 0 where
  more : Bytes
  there : bytes ≡ s ∷ more
  same : lowered more ≡ lowered rest

separated : (s : ℕ) → between (code "a") (code "z") s ≡ false → lower s ≡ s → (rest bytes : Bytes)
    → lowered bytes ≡ lowered (s ∷ rest) → Separated s rest bytes
separated s small stays rest [] e = absurd (nil≢cons e)
separated s small stays rest (d ∷ bytes) e =
    record {
      more = bytes;
      there = ap (λ (b : ℕ). b ∷ bytes) (lower_only d s small (head-eq_of_cons-eq e ∙ stays));
      same = tail-eq_of_cons-eq e;
    }

-- nothing, in other case
lowered_nothing : (bytes : Bytes) → lowered bytes ≡ [] → bytes ≡ []
lowered_nothing [] e = refl
lowered_nothing (b ∷ bytes) e = absurd (nil≢cons (sym e))

-- bytes are these names, each in its own case
record NamesSpelled (names : List Bytes) (bytes : Bytes) : Type 0 where
  spelled : List Bytes
  same : map lowered spelled ≡ map lowered names
  there : bytes ≡ fields_text spelled

names_spelled : (names : List Bytes) (bytes : Bytes) → lowered bytes ≡ lowered (fields_text names)
    → NamesSpelled names bytes
names_spelled [] bytes e = record { spelled = []; same = refl; there = lowered_nothing bytes e }
names_spelled (name ∷ rest) bytes e =
    let behind = separated comma refl (lower_stays comma refl) (name ++ fields_text rest) bytes e in
    let parts = two_parts name (fields_text rest) behind.more behind.same in
    let later = names_spelled rest parts.second parts.same_second in
    record {
      spelled = parts.first ∷ later.spelled;
      same = rw (parts.same_first, later.same);
      there = behind.there ∙ ap (λ (l : Bytes). comma ∷ l) (parts.there ∙ ap (λ (l : Bytes). parts.first ++ l)
          later.there);
    }

-- bytes are these names, each in its own case, and the end of the line behind them
pub record LineSpelled (names : List Bytes) (bytes : Bytes) : Type 0 where
  pub spelled : List Bytes
  pub same : map lowered spelled ≡ map lowered names
  pub there : bytes ≡ fields_text spelled ++ line_end

pub line_spelled : (names : List Bytes) (bytes : Bytes) → lowered bytes ≡ lowered (fields_text names ++ line_end)
    → LineSpelled names bytes
line_spelled names bytes e =
    let parts = two_parts (fields_text names) line_end bytes e in
    let end = separated line_feed refl (lower_stays line_feed refl) [] parts.second parts.same_second in
    let inner = names_spelled names parts.first parts.same_first in
    record {
      spelled = inner.spelled;
      same = inner.same;
      there = parts.there ∙ ap (λ (l : Bytes). l ++ parts.second) inner.there
          ∙ ap (λ (l : Bytes). fields_text inner.spelled ++ l) (end.there ∙ ap (λ (l : Bytes). line_feed ∷ l)
          (lowered_nothing end.more end.same));
    }
