-- The first line that a sheet starts with is found: behind `user` the names are read one by one, while a comma stands
-- there a name is left, and behind the last name stands the line feed. Assumes nothing.
use Rattle.std.specs.Prelude.{ℕ, suc, ◌+◌, ◌≤◌, ◌<◌, ◌≡◌, refl, false, not, ◌&&◌, List, [], ◌∷◌, ◌++◌, map, eqb, ltb}
use Rattle.std.specs.Prelude.{length, get_or, drop, Some}
use Rattle.std.proofs.Common.{arith, sym, ap, ◌∙◌, ⊎_elim, append_assoc, eqb-true, le-ltb, drop_of_length-le}
use Rattle.std.proofs.Common.{length-append, drop-cons}
use Rattle.std.proofs.Math.Bool.{So}
use Rattle.spec.specs.Vocabulary.{concat}
use Rattle.spec.specs.Text.{ascii, same_bytes, Bytes, comma, line_feed, line_text}
use Rattle.bits.specs.Truth.{not_both, and_intro, and_right}
use Rattle.bits.specs.Laws.Below.{below_or_from}
use Rattle.lists.specs.TestLaws.{member_at}
use Rattle.places.specs.Places.{part}
use Rattle.text.specs.Laws.Line.{joined_parts}
use Rattle.sheet.specs.Spelled.{name_read}
use Rattle.sheet.specs.Laws.Spelled.{behind, name_found}
use Rattle.sheet.specs.Laws.UserLineFound.{Behind, byte_found}
use Rattle.sheet.specs.FirstLine.{says_user, NamesFit}

-- names, each behind a comma
abbrev pub behind_commas : List Bytes → Bytes
behind_commas names = concat (map (λ (name : Bytes). comma ∷ name) names)

-- of any names in the first line that the text starts with, all but the first n are left from `at` on
abbrev pub NamesLeft : Bytes → ℕ → ℕ → Type 0
NamesLeft text n at =
    (names : List Bytes) (rest : Bytes) → NamesFit names → text ≡ line_text (ascii "user" ∷ names) ++ rest
    → (n ≤ length names) × (drop at text ≡ behind_commas (drop n names) ++ line_feed ∷ rest)

names_behind : (names : List Bytes) (rest : Bytes) → Behind (behind_commas names ++ line_feed ∷ rest)
names_behind [] rest = record { byte = line_feed; rest = rest; starts = refl; ends = refl }
names_behind (name ∷ names) rest = record { byte = comma; rest = _; starts = refl; ends = refl }

-- the first line with what follows it
first_in_parts : (names : List Bytes) (rest : Bytes)
    → line_text (ascii "user" ∷ names) ++ rest ≡ ascii "user" ++ (behind_commas names ++ line_feed ∷ rest)
first_in_parts names rest =
    ap (λ (l : Bytes). (l ++ line_feed ∷ []) ++ rest) (joined_parts (ascii "user") names)
    ∙ append_assoc (ascii "user" ++ behind_commas names) (line_feed ∷ []) rest ∙ append_assoc (ascii "user")
    (behind_commas names) (line_feed ∷ rest)

-- the text starts with `user`
pub user_found : (text : Bytes) (names : List Bytes) (rest : Bytes) → text ≡ line_text (ascii "user" ∷ names) ++ rest
    → So (says_user text)
unfolding says_user
user_found text names rest e =
    let whole : text ≡ ascii "user" ++ (behind_commas names ++ line_feed ∷ rest) = e ∙ first_in_parts names rest in
    let long : 4 ≤ length text = omega (
      arith,
      ap length whole,
      length-append (ascii "user")
          (behind_commas names ++ line_feed ∷ rest),
    ) in
    and_intro (not (ltb (length text) 4)) (same_bytes (part 0 4 text) (ascii "user"))
    (ap not (le-ltb (length text) 4 long))
    (ap (λ (l : Bytes). same_bytes (part 0 4 l) (ascii "user")) whole)

-- no name is read yet
pub names_left_start : (text : Bytes) → NamesLeft text 0 4
names_left_start text names rest fit e = (
  omega arith,
  behind text 0 (ascii "user") (behind_commas names ++ line_feed ∷ rest)
      (e ∙ first_in_parts names rest),
)

-- a byte is one
one_byte : (text : Bytes) (at b c : ℕ) (rest : Bytes) → So (ltb at (length text) && eqb (get_or text at 0) b)
    → drop at text ≡ c ∷ rest → c ≡ b
one_byte text at b c rest found e =
    sym (eqb-true (get_or text at 0) c (and_right (ltb at (length text)) (eqb (get_or text at 0) c)
    (byte_found text at c rest e)))
    ∙ eqb-true (get_or text at 0) b (and_right (ltb at (length text)) (eqb (get_or text at 0) b) found)

module _ (text : Bytes) (n at : ℕ) (left : NamesLeft text n at) (names : List Bytes) (rest : Bytes)
    (fit : NamesFit names)
    (e : text ≡ line_text (ascii "user" ∷ names) ++ rest) where
  -- past the last name the line feed stands
  past_names : length names ≤ n → drop at text ≡ line_feed ∷ rest
  past_names l = (left names rest fit e).1 ∙ rw (drop_of_length-le names l)

  -- before it a comma and the next name
  before_name : n < length names
      → drop at text ≡ comma ∷ (get_or names n [] ++ (behind_commas (drop (suc n) names) ++ line_feed ∷ rest))
  before_name l =
      (left names rest fit e).1
      ∙ rw (drop-cons names n [] l)
      (ap (λ (t : Bytes). comma ∷ t) (append_assoc (get_or names n []) (behind_commas (drop (suc n) names))
      (line_feed ∷ rest)))

  -- while a comma stands there, a name is left
  pub name_below : So (ltb at (length text) && eqb (get_or text at 0) comma) → n < length names
  name_below found = ⊎_elim (λ l. l) past (below_or_from n (length names))
    where
      past : length names ≤ n → n < length names
      past l = let same : line_feed ≡ comma = one_byte text at comma line_feed rest found (past_names l)
          in absurd (omega arith)

  -- it is read, and behind it are the others
  abbrev next_end : ℕ
  next_end = at + 1 + length (get_or names n [])

  behind_comma : n < length names
      → drop (at + 1) text ≡ get_or names n [] ++ (behind_commas (drop (suc n) names) ++ line_feed ∷ rest)
  behind_comma below =
      behind text at (comma ∷ []) (get_or names n [] ++ (behind_commas (drop (suc n) names) ++ line_feed ∷ rest))
      (before_name below)

  pub next_name : So (ltb at (length text) && eqb (get_or text at 0) comma) → name_read text (at + 1) ≡ Some next_end
  next_name found =
      let below = name_below found in
      let b = names_behind (drop (suc n) names) rest in
      name_found text (at + 1) (get_or names n []) b.byte b.rest
      (fit.each (get_or names n []) (member_at names n [] below)) b.ends
      (behind_comma below ∙ ap (λ (l : Bytes). get_or names n [] ++ l) b.starts)

  behind_next : So (ltb at (length text) && eqb (get_or text at 0) comma)
      → drop next_end text ≡ behind_commas (drop (suc n) names) ++ line_feed ∷ rest
  behind_next found =
      behind text (at + 1) (get_or names n []) (behind_commas (drop (suc n) names) ++ line_feed ∷ rest)
      (behind_comma (name_below found))

  -- where no comma stands, none is left
  pub all_read : (ltb at (length text) && eqb (get_or text at 0) comma) ≡ false → n ≡ length names
  all_read f = ⊎_elim before (λ l. let few = (left names rest fit e).0 in omega arith) (below_or_from n (length names))
    where
      before : n < length names → n ≡ length names
      before l =
          absurd (not_both (byte_found text at comma
          (get_or names n [] ++ (behind_commas (drop (suc n) names) ++ line_feed ∷ rest)) (before_name l)) f)

  pub feed_left : n ≡ length names → drop at text ≡ line_feed ∷ rest
  feed_left q = past_names (omega arith)

-- a name that was read leaves the others
pub names_left_next : (text : Bytes) (n at end : ℕ) → NamesLeft text n at
    → So (ltb at (length text) && eqb (get_or text at 0) comma)
    → Some end ≡ name_read text (at + 1) → NamesLeft text (suc n) end
names_left_next text n at end left found named names rest fit e =
    let same : end ≡ at + 1 + length (get_or names n []) = cc (next_name text n at left names rest fit e found) in
    (name_below text n at left names rest fit e found, rw same (behind_next text n at left names rest fit e found))
