-- The answers to the calls of a script, each as a line: its words, one blank behind each word but the last. Assumes
-- nothing.
use Rattle.std.specs.Prelude.{ℕ, List, [], ◌∷◌, ◌++◌, map, length, get_or}
use Prim.Native.Char.{code}
use Rattle.spec.specs.Vocabulary.{joined}
use Rattle.spec.specs.Text.{Bytes, ascii, line_feed}
use Rattle.spec.specs.Decimal.{decimal}
use Rattle.spec.specs.Calls.{LoadAnswer, ReduceAnswer, SearchAnswer, WriteAnswer, CheckAnswer}
use Rattle.spec.specs.LongSearch.{named_word}
use Rattle.io.specs.Digits.{last_digits}
use Rattle.lists.specs.Listed.{listed}
use Rattle.adler.specs.Adler.{adler_32}

abbrev pub blank : ℕ
blank = code " "

abbrev pub answer_line : List Bytes → Bytes
answer_line words = joined blank words ++ line_feed ∷ []

-- ---- the parts of a line

-- a word behind a blank
abbrev pub behind_blank : Bytes → Bytes
behind_blank word = blank ∷ word

-- numbers, each behind a blank
abbrev pub numbers_text : List ℕ → Bytes
numbers_text numbers = listed (length numbers) (λ i. behind_blank (decimal (get_or numbers i 0)))

-- a number of the machine behind a blank has at most so many bytes
abbrev pub number_most : ℕ
number_most = 21

-- a last word is one word more, an empty one none
abbrev pub last_words : Bytes → List Bytes
last_words [] = []
last_words (b ∷ word) = (b ∷ word) ∷ []

-- the last word behind a blank, and the end of the line
abbrev pub last_text : Bytes → Bytes
last_text [] = line_feed ∷ []
last_text (b ∷ word) = behind_blank (b ∷ word) ++ line_feed ∷ []

-- a digest in 8 hexadecimal digits
abbrev pub digest_digits : ℕ
digest_digits = 8

abbrev pub digest_word : ℕ → Bytes
digest_word sum = last_digits 16 digest_digits sum

-- ---- the answers

-- `load NUMBER USERS PERMISSIONS GRANTS`
abbrev pub load_line : LoadAnswer → Bytes
load_line a =
    answer_line (ascii "load" ∷ map decimal (a.number ∷ a.users ∷ a.permissions ∷ a.grants ∷ []))

-- `reduce NUMBER K W`
abbrev pub reduce_line : ReduceAnswer → Bytes
reduce_line a = answer_line (ascii "reduce" ∷ map decimal (a.number ∷ a.kernel ∷ a.witness ∷ []))

-- `search NUMBER STEPS PLACED BACK CLOSED ROLES BOUND STATE`
abbrev pub search_line : SearchAnswer → Bytes
search_line a =
    answer_line
    (ascii "search"
    ∷ map decimal
    (a.number ∷ a.steps ∷ a.placed ∷ a.taken_back ∷ a.closed ∷ a.roles ∷ a.bound ∷ [])
    ++ named_word a.standing ∷ [])

-- `WORD NUMBER COUNT DIGEST`, of a call that writes into lent bytes, from the number that the digest spells
abbrev pub digest_line : Bytes → WriteAnswer → ℕ → Bytes
digest_line word a sum = answer_line (word ∷ map decimal (a.number ∷ a.count ∷ []) ++ digest_word sum ∷ [])

-- `write NUMBER COUNT DIGEST` and `newcomer NUMBER COUNT DIGEST`, from the bytes that were lent as they are after the
-- call: their Adler-32
abbrev pub write_line : WriteAnswer → Bytes → Bytes
write_line a lent = digest_line (ascii "write") a (adler_32 lent)

abbrev pub newcomer_line : WriteAnswer → Bytes → Bytes
newcomer_line a lent = digest_line (ascii "newcomer") a (adler_32 lent)

-- `check NUMBER ROLES WITNESSLINES`
abbrev pub check_line : CheckAnswer → Bytes
check_line a = answer_line (ascii "check" ∷ map decimal (a.number ∷ a.roles ∷ a.witness_lines ∷ []))

-- the answer to a line that is no call
abbrev pub no_call_line : Bytes
no_call_line = answer_line (ascii "?" ∷ [])
