-- A test of every cell, word by word: it is a test of every word, and a word that fails its test fails that of all.
use Rattle.std.specs.Prelude.{ℕ, ◌+◌, ◌*◌, ◌<◌, ◌≡◌, Bool, false, List, get_or}
use Rattle.std.proofs.Common.{arith}
use Rattle.std.proofs.Math.Bool.{So}
use Rattle.std.proofs.Math.Arith.{digits_lt, digits_div, digits_mod}
use Rattle.spec.specs.Vocabulary.{every_below}
use Rattle.bits.specs.Bit.{bit, word_bits}
use Rattle.bits.specs.Truth.{implies, fails_unless, not_both, and_intro}
use Rattle.bits.specs.Laws.Below.{every_below_add, every_below_intro, every_below_elim, every_below_ext}
use Rattle.cell_rows.specs.Rows.{row_words}
use Rattle.cell_rows.specs.RowHeld.{held_at}

-- the test of one word
abbrev pub every_in_word : (ℕ → Bool) → ℕ → Bool
every_in_word f i = every_below word_bits (λ q. f (i * word_bits + q))

pub every_next_word : (f : ℕ → Bool) (i : ℕ) → So (every_below (i * word_bits) f) → So (every_in_word f i)
    → So (every_below ((i + 1) * word_bits) f)
every_next_word f i earlier here =
    let more : (i + 1) * word_bits ≡ i * word_bits + word_bits = omega arith in
    rw (more, every_below_add (i * word_bits) word_bits f) (and_intro (every_below (i * word_bits) f)
    (every_in_word f i) earlier here)

pub every_word_fails : (f : ℕ → Bool) (i n : ℕ) → i < n → every_in_word f i ≡ false → every_below (n * word_bits) f ≡
    false
every_word_fails f i n l e =
    fails_unless (every_below (n * word_bits) f) (λ p. not_both
    (every_below_intro word_bits (λ q. f (i * word_bits + q)) (λ q k. every_below_elim (n * word_bits) f p
    (digits_lt l k))) e)

-- ---- a row that has every cell of another

pub held_word : (rows asked : List ℕ) (u c j : ℕ)
    → every_below word_bits (λ q. implies (bit (get_or asked (c * row_words + j) 0) q)
    (bit (get_or rows (u * row_words + j) 0) q))
    ≡ every_in_word (held_at rows asked u c) j
held_word rows asked u c j =
    every_below_ext word_bits (λ q. implies (bit (get_or asked (c * row_words + j) 0) q)
    (bit (get_or rows (u * row_words + j) 0) q))
    (λ q. held_at rows asked u c (j * word_bits + q)) (λ q l. rw (digits_div j l, digits_mod j l))
