-- The bytes of written lines: there are some, the last is a line feed, and each is a line feed, a comma or a byte of
-- a field. They follow line by line from how a line is written. Assumes nothing.
use Rattle.std.specs.Prelude.{ℕ, ◌≡◌, refl, ◌⊎◌, false}
use Rattle.std.proofs.Common.{◌∙◌, inl, inr, ⊎_elim, true≢false}
use mathlib.Core.List.Memᴰ
use mathlib.Core.List.{List, [], ◌∷◌, ◌++◌, map, append-nil, Memᴰ}
use Rattle.spec.specs.Vocabulary.{empty, joined}
use Rattle.spec.specs.Text.{Bytes, Line, comma, line_feed, line_text, text_of, last_byte}
use Rattle.lists.specs.JoinLaws.{InPart, concat_element, joined_element}

-- bytes with a byte among them are not empty
some_before : (front : Bytes) (b : ℕ) (back : Bytes) → empty (front ++ b ∷ back) ≡ false
some_before [] b back = refl
some_before (c ∷ front) b back = refl

pub some_after : (front back : Bytes) → empty front ≡ false → empty (front ++ back) ≡ false
some_after [] back e = absurd (true≢false e)
some_after (b ∷ front) back e = refl

-- a text of some line is not empty
pub text_some : (line : Line) (later : List Line) → empty (text_of (line ∷ later)) ≡ false
text_some line later = some_after (line_text line) (text_of later) (some_before (joined comma line) line_feed [])

pub last_after : (front : Bytes) (back : Bytes) → empty back ≡ false → last_byte (front ++ back) ≡ last_byte back
last_after [] back e = refl
last_after (b ∷ []) [] e = absurd (true≢false e)
last_after (b ∷ []) (c ∷ back) e = refl
last_after (b ∷ next ∷ front) back e = last_after (next ∷ front) back e

-- and its last byte is a line feed
pub text_ends : (line : Line) (later : List Line) → last_byte (text_of (line ∷ later)) ≡ line_feed
text_ends line [] = rw (append-nil (line_text line)) (last_after (joined comma line) (line_feed ∷ []) refl)
text_ends line (next ∷ later) =
    last_after (line_text line) (text_of (next ∷ later)) (text_some next later) ∙ text_ends next later

-- a byte of a field of some line
pub record FieldByte (all_lines : List Line) (b : ℕ) : Type 0 where
  pub line : Line
  pub line_member : Memᴰ line all_lines
  pub field : Bytes
  pub field_member : Memᴰ field line
  pub byte_member : Memᴰ b field

line_byte : (all_lines : List Line) (line : Line) → Memᴰ line all_lines → (b : ℕ) → Memᴰ b (line_text line)
    → (b ≡ line_feed) ⊎ ((b ≡ comma) ⊎ FieldByte all_lines b)
line_byte all_lines line m b n =
    ⊎_elim (λ k. inr (⊎_elim (λ e. inl e) (λ r. inr (found r)) (joined_element comma line k)))
    (λ k. inl (Memᴰ.eq_of_singleton k)) (Memᴰ.append_cases (joined comma line) n)
  where
    found : InPart line b → FieldByte all_lines b
    found r =
        record { line = line; line_member = m; field = r.part; field_member = r.member; byte_member = r.element }

-- each byte is a line feed, a comma or a byte of a field
pub text_byte : (all_lines : List Line) (b : ℕ) → Memᴰ b (text_of all_lines)
    → (b ≡ line_feed) ⊎ ((b ≡ comma) ⊎ FieldByte all_lines b)
text_byte all_lines b m =
    let part = concat_element (map line_text all_lines) m in
    let line = Memᴰ.of_map line_text all_lines part.member in
    line_byte all_lines line.0 line.1 b (rw (← line.2) at part.element)
