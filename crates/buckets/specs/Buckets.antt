-- Buckets of names: equal names have one bucket, so a name is compared with those of its own bucket only. Assumes
-- nothing.
use Rattle.std.specs.Prelude.{ℕ, ◌+◌, ◌*◌, ◌/◌, ◌%◌, ◌<◌, Bool, ◌&&◌, List, [], ◌∷◌, length, get_or, ◌≡◌}
use Rattle.std.proofs.Math.Bool.{So}
use Rattle.bits.specs.Counting.{some_below}
use Rattle.spec.specs.Text.{Bytes, same_name}
use Rattle.bits.specs.Bit.{bit, word_bits}
use Rattle.names.specs.NamesAt.{PartThere, name_there}

-- how many buckets there are
abbrev pub bucket_count : ℕ
bucket_count = 128

-- the words of a bucket: a bit for each name that there can be
abbrev pub bucket_words : ℕ
bucket_words = 4

-- what the bucket of some bytes is multiplied by before the next byte is added
abbrev pub spread : ℕ
spread = 9

-- a byte counts by what is left when it is divided by this: the same for a capital and its small letter
abbrev pub letters : ℕ
letters = 32

-- the bucket of bytes that follow others, whose bucket is h
abbrev pub bucket_after : ℕ → Bytes → ℕ
bucket_after h [] = h
bucket_after h (b ∷ rest) = bucket_after ((h * spread + b % letters) % bucket_count) rest

-- the bucket of a name
unfoldable pub bucket_of : Bytes → ℕ
bucket_of name = bucket_after 0 name

-- the table notes the first n names: each has its bit in its bucket, and no bit is that of a later name
pub record Noted (table : List ℕ) (text : Bytes) (places : List ℕ) (n : ℕ) : Type 0 where
  pub size : length table ≡ bucket_count * bucket_words
  pub below : (h k p : ℕ) → k < bucket_words → p < word_bits → So (bit (get_or table (h * bucket_words + k) 0) p)
      → k * word_bits + p < n
  pub each : (j : ℕ) → j < n
      → So (bit (get_or table (bucket_of (name_there text places j) * bucket_words + j / word_bits) 0) (j % word_bits))

-- each bit of the table is that of a name that stands in the text
pub record BitsNamed (table : List ℕ) (text : Bytes) (places : List ℕ) : Type 0 where
  pub part : (h k p : ℕ) → k < bucket_words → p < word_bits → So (bit (get_or table (h * bucket_words + k) 0) p)
      → PartThere text places (k * word_bits + p)

-- position p of a word is that of a name equal to this one, where the word's first position is that of the name `first`
abbrev pub meets_at : Bytes → List ℕ → ℕ → ℕ → Bytes → ℕ → Bool
meets_at text places word first name p = bit word p && same_name (name_there text places (first + p)) name

-- so is some position of the word
abbrev pub meets_word : Bytes → List ℕ → ℕ → ℕ → Bytes → Bool
meets_word text places word first name = some_below word_bits (meets_at text places word first name)

-- so is some position of the first words of a bucket
abbrev pub meets_bucket : Bytes → List ℕ → List ℕ → ℕ → ℕ → Bytes → Bool
meets_bucket text places table bucket words name =
    some_below words (λ k. meets_word text places (get_or table (bucket * bucket_words + k) 0) (k * word_bits) name)
