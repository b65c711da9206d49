-- A name and those of its bucket: what walking the positions of a word finds, and what it says of all names before.
-- Assumes nothing.
use Rattle.std.specs.Prelude.{ℕ, suc, ◌+◌, ◌*◌, ◌/◌, ◌%◌, ◌≤◌, ◌<◌, ◌≡◌, refl, Bool, true, false, not, ◌&&◌, ◌||◌, List}
use Rattle.std.specs.Prelude.{eqb, ltb, length, get_or, set, replicate}
use Rattle.std.proofs.Common.{not-suc-le-zero, arith, sym, ◌∙◌, ⊎_elim, eqb-true, ltb-true, lt-ltb}
use Rattle.std.proofs.Math.Bool.{So, and-false}
use Rattle.spec.specs.Vocabulary.{repeats}
use Rattle.spec.specs.Limits.{user_limit}
use Rattle.spec.specs.Text.{Bytes, same_name}
use Rattle.bits.specs.Truth.{passes_or_fails, not_both, fails_unless, and_intro, and_left, and_right}
use Rattle.bits.specs.Counting.{Lowest}
use Rattle.bits.specs.Laws.Below.{last_or_below, some_below_intro, some_below_elim, some_below_ext, none_below_intro}
use Rattle.bits.specs.Bit.{bit, word_bits}
use Rattle.bits.specs.Laws.Bit.{bit_of_zero}
use Rattle.bits.specs.Word.{LowestDropped}
use Rattle.names.specs.NamesAt.{Inside, name_there, all_names, Apart}
use Rattle.buckets.specs.Buckets.{bucket_count, bucket_words, bucket_of, Noted, meets_at, meets_word, meets_bucket}
use Rattle.buckets.specs.Laws.Bucket.{same_bucket, none_noted, one_noted}
use Rattle.buckets.specs.Laws.Repeats.{equal_names_repeat}

-- ---- a word's positions, the lowest first

-- rest has positions of the word only, and those that it lacks are not met
pub record Walked (text : Bytes) (places : List ℕ) (word first : ℕ) (name : Bytes) (rest : ℕ) : Type 0 where
  pub part : (p : ℕ) → So (bit rest p) → So (bit word p)
  pub same : meets_word text places rest first name ≡ meets_word text places word first name

unless_dropped : (there dropped equal : Bool) → dropped ≡ false → ((there && not dropped) && equal) ≡ (there && equal)
unless_dropped true dropped equal f = rw f
unless_dropped false dropped equal f = refl

module _ (text : Bytes) (places : List ℕ) (word first : ℕ) (name : Bytes) where
  pub none_walked : Walked text places word first name word
  none_walked = record { part = λ p s. s; same = refl }

  module _ (rest : ℕ) (walked : Walked text places word first name rest) where
    pub lowest_met : {p : ℕ} → Lowest word_bits (bit rest) p → So (same_name (name_there text places (first + p)) name)
        → So (meets_word text places word first name)
    lowest_met {p} lowest equal =
        sym walked.same
        ∙ some_below_intro word_bits (meets_at text places rest first name) lowest.within
        (and_intro (bit rest p) (same_name (name_there text places (first + p)) name) lowest.holds equal)

    pub lowest_walked : {p : ℕ} → Lowest word_bits (bit rest) p → same_name (name_there text places (first + p)) name
        ≡ false
        → {after : ℕ} → LowestDropped rest after → Walked text places word first name after
    lowest_walked {p} lowest other {after} dropped =
        record {
          part = λ q s. walked.part q (and_left (bit rest q) (not (eqb q p)) (sym (dropped.others lowest q) ∙ s));
          same = some_below_ext word_bits (meets_at text places after first name) (meets_at text places rest first
              name) (λ q l. each q) ∙ walked.same;
        }
      where
        each : (q : ℕ) → meets_at text places after first name q ≡ meets_at text places rest first name q
        each q =
            ⊎_elim (λ t. rw (eqb-true q p t, other, and-false (bit after p), and-false (bit rest p)))
            (λ f. rw (dropped.others lowest q) (unless_dropped (bit rest q) (eqb q p)
            (same_name (name_there text places (first + q)) name) f))
            (passes_or_fails (eqb q p))

  pub all_walked : Walked text places word first name 0 → meets_word text places word first name ≡ false
  all_walked walked =
      sym walked.same ∙ none_below_intro word_bits (meets_at text places 0 first name) (λ p l. rw (bit_of_zero p))

-- ---- a bucket

module _ (table : List ℕ) (text : Bytes) (places : List ℕ) (n : ℕ) (noted : Noted table text places n) where
  -- a name of the bucket that equals name n stands before it
  pub met_before : (bucket words : ℕ) → words ≤ bucket_words
      → So (meets_bucket text places table bucket words (name_there text places n))
      → (j : ℕ) × (j < n) × So (same_name (name_there text places j) (name_there text places n))
  met_before bucket words few s =
      let word = some_below_elim words (λ k. meets_word text places (get_or table (bucket * bucket_words + k) 0)
      (k * word_bits) name) s in
      let k = word.place in
      let found = some_below_elim word_bits (meets_at text places (get_or table (bucket * bucket_words + k) 0)
      (k * word_bits) name) word.holds in
      let p = found.place in
      let there = bit (get_or table (bucket * bucket_words + k) 0) p in
      let equal = same_name (name_there text places (k * word_bits + p)) name in (
        k * word_bits + p,
        noted.below bucket k p (omega (arith, word.within)) found.within (and_left there equal found.holds),
        and_right there equal found.holds,
      )
    where
      name : Bytes
      name = name_there text places n

  -- where none of its bucket equals name n, no name before it does
  pub unmet_before : (words : ℕ) → n < words * word_bits
      → meets_bucket text places table (bucket_of (name_there text places n)) words (name_there text places n) ≡ false
      → (j : ℕ) → j < n
      → same_name (name_there text places j) (name_there text places n) ≡ false
  unmet_before words enough f j l = fails_unless (same_name (name_there text places j) name) (λ p. not_both (met p) f)
    where
      name : Bytes
      name = name_there text places n

      word : ℕ → ℕ
      word k = get_or table (bucket_of name * bucket_words + k) 0

      met : So (same_name (name_there text places j) name) → So (meets_bucket text places table (bucket_of name) words
          name)
      met p =
          let there : So (bit (word (j / word_bits)) (j % word_bits)) = rw (same_bucket (name_there text places j)
          name p) at (noted.each j l) in
          let number : j / word_bits * word_bits + j % word_bits ≡ j = omega arith in
          some_below_intro words (λ k. meets_word text places (word k) (k * word_bits) name) {i = j / word_bits}
          (omega arith)
          (some_below_intro word_bits (meets_at text places (word (j / word_bits)) (j / word_bits * word_bits) name)
          {i = j % word_bits} (omega arith)
          (and_intro (bit (word (j / word_bits)) (j % word_bits))
          (same_name (name_there text places (j / word_bits * word_bits + j % word_bits)) name) there (rw number p)))

-- one name more that equals none before it
pub apart_more : (text : Bytes) (places : List ℕ) (n : ℕ) → Apart text places n
    → ((j : ℕ) → j < n → same_name (name_there text places j) (name_there text places n) ≡ false)
    → Apart text places (suc n)
apart_more text places n apart unlike i j h k =
    ⊎_elim (λ e. rw e (unlike i (rw e at h))) (λ l. apart i j h l) (last_or_below k)

-- ---- a turn of the loop that notes the names

-- what is known before the name n is looked at
pub record Searched (table : List ℕ) (text : Bytes) (places : List ℕ) (n : ℕ) : Type 0 where
  pub noted : Noted table text places n
  pub apart : Apart text places n

pub none_searched : (text : Bytes) (places : List ℕ) → Searched (replicate (bucket_count * bucket_words) 0) text
    places 0
none_searched text places = record { noted = none_noted text places; apart = λ i j h k. absurd (not-suc-le-zero k) }

module _ (table : List ℕ) (text : Bytes) (places : List ℕ) (n : ℕ) (inside : Inside text places) (l : n < length places)
    (searched : Searched table text places n) (name : Bytes) (named : name ≡ name_there text places n) where
  -- the words of a bucket up to that of the name n
  few_words : n / word_bits < bucket_words
  unfolding user_limit
  few_words = omega (arith, inside.few)

  -- a name that is met stands twice
  pub met_repeats : (bucket : ℕ) → So (meets_bucket text places table bucket (n / word_bits + 1) name)
      → So (repeats same_name (all_names text places))
  met_repeats bucket met =
      let earlier = met_before table text places n searched.noted bucket (n / word_bits + 1)
      (omega (arith, few_words)) (rw named at met) in
      equal_names_repeat text places (length places) earlier.0 n earlier.1 l earlier.2

  -- a name that is not met is noted
  pub unmet_searched : (bucket : ℕ) → bucket ≡ bucket_of name → meets_bucket text places table bucket
      (n / word_bits + 1) name ≡ false
      → (w : ℕ) → ((q : ℕ) → bit w q ≡ (bit (get_or table (bucket * bucket_words + n / word_bits) 0) q
      || eqb q (n % word_bits)))
      → Searched (set table (bucket * bucket_words + n / word_bits) w) text places (suc n)
  unmet_searched bucket of-name unmet w with_bit =
      let here : bucket ≡ bucket_of (name_there text places n) = rw named at of-name in
      record {
        noted = rw here (one_noted table text places n w few_words searched.noted (rw here at with_bit));
        apart = apart_more text places n searched.apart (unmet_before table text places n searched.noted
            (n / word_bits + 1) (omega arith) (rw (here, named) at unmet));
      }

-- ---- a turn of the loop over few names, each compared with all before it

module _ (text : Bytes) (places : List ℕ) (n word : ℕ) (l : n < length places) (all_before : (q : ℕ)
    → bit word q ≡ ltb q n) (name : Bytes)
    (named : name ≡ name_there text places n) where
  equal_few : (p : ℕ) → p < n → So (same_name (name_there text places (0 + p)) name)
      → So (repeats same_name (all_names text places))
  equal_few p h equal =
      let number : 0 + p ≡ p = omega arith in equal_names_repeat text places (length places) p n h l
      (rw (number, named) at equal)

  pub met_few : So (meets_word text places word 0 name) → So (repeats same_name (all_names text places))
  met_few met =
      let found = some_below_elim word_bits (meets_at text places word 0 name) met in
      let p = found.place in
      let there = bit word p in
      let equal = same_name (name_there text places (0 + p)) name in
      equal_few p (ltb-true p n (sym (all_before p) ∙ and_left there equal found.holds))
      (and_right there equal found.holds)

  pub unmet_few : n ≤ word_bits → Apart text places n → meets_word text places word 0 name ≡ false
      → Apart text places (suc n)
  unmet_few few apart unmet = apart_more text places n apart unlike
    where
      unlike : (j : ℕ) → j < n → same_name (name_there text places j) (name_there text places n) ≡ false
      unlike j h =
          let number : 0 + j ≡ j = omega arith in
          fails_unless (same_name (name_there text places j) (name_there text places n)) (λ p.
          not_both
          (some_below_intro word_bits (meets_at text places word 0 name) {i = j} (omega arith)
          (and_intro (bit word j) (same_name (name_there text places (0 + j)) name) (all_before j ∙ lt-ltb j n h)
          (rw (number, named) p)))
          unmet)
