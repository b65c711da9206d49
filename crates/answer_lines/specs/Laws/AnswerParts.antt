-- Answers in the order in which they are written: the first word, each number behind a blank, what ends the line; and
-- how long they can be. Assumes nothing.
use Rattle.std.specs.Prelude.{ℕ, ◌+◌, ◌*◌, ◌^◌, ◌≤◌, ◌<◌, ◌≡◌, refl, List, [], ◌∷◌, ◌++◌, map, length, get_or}
use Rattle.std.proofs.Common.{arith, sym, ap, ◌∙◌, append_assoc, append-nil, length-append}
use Rattle.std.proofs.lemmas.List.{map-append}
use Rattle.spec.specs.Vocabulary.{joined, concat}
use Rattle.spec.specs.Text.{Bytes, line_feed}
use Rattle.spec.specs.Decimal.{decimal}
use Rattle.bits.specs.Bit.{word_bits}
use Rattle.lists.specs.JoinLaws.{concat_append}
use Rattle.lists.specs.ListOfLaws.{list_of_places, map_list_of}
use Rattle.lists.specs.Listed.{listed_length}
use Rattle.decimal.specs.Laws.Digit.{digits_of_word}
use Rattle.answer_lines.specs.Answers.{blank, answer_line, behind_blank, numbers_text, number_most, last_words}
use Rattle.answer_lines.specs.Answers.{last_text}

words_parts : (word : Bytes) (rest : List Bytes) → joined blank (word ∷ rest) ≡ word ++ concat (map behind_blank rest)
words_parts word [] = sym (append-nil word)
words_parts word (next ∷ rest) = ap (λ (l : Bytes). word ++ blank ∷ l) (words_parts next rest)

numbers_are_listed : (numbers : List ℕ) → concat (map behind_blank (map decimal numbers)) ≡ numbers_text numbers
numbers_are_listed numbers =
    ap (λ (l : List ℕ). concat (map behind_blank (map decimal l))) (sym (list_of_places numbers 0))
    ∙ rw (
      map_list_of decimal (length numbers) (λ i. get_or numbers i 0),
      map_list_of behind_blank (length numbers) (λ i. decimal (get_or numbers i 0)),
    )

last_is_text : (last : Bytes) → concat (map behind_blank (last_words last)) ++ line_feed ∷ [] ≡ last_text last
last_is_text [] = refl
last_is_text (b ∷ word) = simp (append_assoc, append-nil)

-- a line in these parts
pub line_parts : (word : Bytes) (numbers : List ℕ) (last : Bytes)
    → (word ++ numbers_text numbers) ++ last_text last ≡ answer_line (word ∷ map decimal numbers ++ last_words last)
line_parts word numbers last =
    sym (rw (
      words_parts word (map decimal numbers ++ last_words last),
      map-append behind_blank (map decimal numbers) (last_words last),
      concat_append (map behind_blank (map decimal numbers)) (map behind_blank (last_words last)),
      numbers_are_listed numbers,
      ← last_is_text last,
    )
    (simp append_assoc))

-- a word that is not empty is one word more
pub last_word : (word : Bytes) → 0 < length word → word ∷ [] ≡ last_words word
last_word [] h = absurd (omega arith)
last_word (b ∷ word) h = refl

-- ---- room for them

numbers_room : (numbers : List ℕ) → ((i : ℕ) → get_or numbers i 0 < 2 ^ word_bits) → length (numbers_text numbers) ≤
    length numbers * number_most
numbers_room numbers small =
    listed_length (length numbers) number_most (λ i. behind_blank (decimal (get_or numbers i 0)))
    (λ i l. omega (arith, digits_of_word (get_or numbers i 0) (small i)))

last_room : (last : Bytes) → length (last_text last) ≤ length last + 2
last_room [] = omega arith
last_room (b ∷ word) = omega (arith, length-append word (line_feed ∷ []))

pub line_room : (word : Bytes) (numbers : List ℕ) (last : Bytes) {room : ℕ}
    → ((i : ℕ) → get_or numbers i 0 < 2 ^ word_bits)
    → length word + length numbers * number_most + length last + 2 ≤ room
    → length ((word ++ numbers_text numbers) ++ last_text last) ≤ room
line_room word numbers last small fits =
    omega (
      arith,
      numbers_room numbers small,
      last_room last,
      length-append word (numbers_text numbers),
      length-append (word ++ numbers_text numbers) (last_text last),
    )

-- what ends a line where there is no last word, and where there is one
pub last_none : (last : Bytes) → length last ≡ 0 → line_feed ∷ [] ≡ last_text last
last_none [] e = refl
last_none (b ∷ word) e = absurd (omega arith)

pub last_some : (last : Bytes) → (length last ≡ 0 → ⊥) → (blank ∷ last) ++ line_feed ∷ [] ≡ last_text last
last_some [] h = absurd (h refl)
last_some (b ∷ word) h = refl
