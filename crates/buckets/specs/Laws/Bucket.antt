-- The table of buckets as names are noted one by one, and what a name that meets none of its bucket says of all names
-- before it. Assumes nothing.
use Rattle.std.specs.Prelude.{ℕ, suc, ◌+◌, ◌*◌, ◌/◌, ◌%◌, ◌≤◌, ◌<◌, ◌≡◌, refl, ◌⊎◌, ◌||◌, List, [], ◌∷◌, eqb, length}
use Rattle.std.specs.Prelude.{get_or, set, drop, replicate}
use Rattle.std.proofs.Common.{not-suc-le-zero, arith, sym, ap, ◌∙◌, inl, inr, ⊎_elim, eqb-true, eq-eqb, length-set}
use Rattle.std.proofs.Common.{drop-cons, get_or-set_same, get_or-set_other}
use Rattle.std.proofs.Math.Bool.{So}
use Rattle.std.proofs.lemmas.Bool.{eqb-false}
use Rattle.std.proofs.lemmas.List.{length-replicate}
use Rattle.spec.specs.Text.{Bytes, lowered, same_name}
use Rattle.bits.specs.Truth.{passes_or_fails, not_both, or_left, or_right, or_cases}
use Rattle.bits.specs.Laws.Below.{last_or_below}
use Rattle.bits.specs.Bit.{bit, word_bits}
use Rattle.bits.specs.Laws.Bit.{bit_of_zero}
use Rattle.text.specs.Laws.Lowered.{lower_leaves, same_name_elim}
use Rattle.names.specs.NamesAt.{Inside, name_there}
use Rattle.places.specs.Laws.Places.{zero_there}
use Rattle.names.specs.Laws.NamesAt.{inside_part}
use Rattle.buckets.specs.Buckets.{bucket_count, bucket_words, spread, letters, bucket_after, bucket_of, Noted}
use Rattle.buckets.specs.Buckets.{BitsNamed}

-- ---- the bucket of a name

bucket_lowered : (h : ℕ) (name : Bytes) → bucket_after h (lowered name) ≡ bucket_after h name
bucket_lowered h [] = refl
bucket_lowered h (b ∷ rest) =
    ap (λ (n : ℕ). bucket_after ((h * spread + n) % bucket_count) (lowered rest)) (lower_leaves b)
    ∙ bucket_lowered ((h * spread + b % letters) % bucket_count) rest

-- equal names have one bucket: all that is asked of it
pub same_bucket : (a b : Bytes) → So (same_name a b) → bucket_of a ≡ bucket_of b
unfolding bucket_of
same_bucket a b p =
    sym (bucket_lowered 0 a) ∙ ap (bucket_after 0) (same_name_elim a b p) ∙ bucket_lowered 0 b

pub bucket_after_below : (h : ℕ) (bytes : Bytes) → h < bucket_count → bucket_after h bytes < bucket_count
bucket_after_below h [] l = l
bucket_after_below h (b ∷ rest) l = bucket_after_below ((h * spread + b % letters) % bucket_count) rest (omega arith)

pub bucket_below : (name : Bytes) → bucket_of name < bucket_count
unfolding bucket_of
bucket_below name = bucket_after_below 0 name (omega arith)

-- one byte and those after it
pub bucket_step : (h : ℕ) (name : Bytes) (i : ℕ) → i < length name
    → bucket_after h (drop i name)
    ≡ bucket_after ((h * spread + get_or name i 0 % letters) % bucket_count) (drop (suc i) name)
bucket_step h name i l = rw (drop-cons name i 0 l)

-- ---- the table

module _ (table : List ℕ) (at p w : ℕ) (l : at < length table)
    (with_bit : (q : ℕ) → bit w q ≡ (bit (get_or table at 0) q || eqb q p)) where
  -- a bit of the table with one bit more: one that was there, or the new one
  pub old_or_new : (x q : ℕ) → So (bit (get_or (set table at w) x 0) q) → So (bit (get_or table x 0) q) ⊎ ((x ≡ at)
      × (q ≡ p))
  old_or_new x q s = ⊎_elim (λ t. here (eqb-true x at t)) (λ f. inl (elsewhere (eqb-false x at f)))
      (passes_or_fails (eqb x at))
    where
      here : x ≡ at → So (bit (get_or table x 0) q) ⊎ ((x ≡ at) × (q ≡ p))
      here e =
          let now : So (bit (get_or table at 0) q || eqb q p) = sym (with_bit q)
          ∙ rw (e, get_or-set_same table at w 0 l) at s in
          ⊎_elim (λ o. inl (rw e o)) (λ n. inr (e, eqb-true q p n)) (or_cases (bit (get_or table at 0) q) (eqb q p) now)

      elsewhere : (x ≡ at → ⊥) → So (bit (get_or table x 0) q)
      elsewhere d = rw (get_or-set_other table at x w 0 d) at s

  pub old_stays : (x q : ℕ) → So (bit (get_or table x 0) q) → So (bit (get_or (set table at w) x 0) q)
  old_stays x q s = ⊎_elim (λ t. here (eqb-true x at t)) (λ f. elsewhere (eqb-false x at f))
      (passes_or_fails (eqb x at))
    where
      here : x ≡ at → So (bit (get_or (set table at w) x 0) q)
      here e = rw (e, get_or-set_same table at w 0 l, with_bit q) (or_left (bit (get_or table at 0) q) (eqb q p)
          (rw e at s))

      elsewhere : (x ≡ at → ⊥) → So (bit (get_or (set table at w) x 0) q)
      elsewhere d = rw (get_or-set_other table at x w 0 d) s

  pub new_there : So (bit (get_or (set table at w) at 0) p)
  new_there = rw (get_or-set_same table at w 0 l, with_bit p) (or_right (bit (get_or table at 0) p) (eqb p p)
      (eq-eqb p p refl))

-- the word of the name j in its bucket
abbrev word_of : Bytes → List ℕ → ℕ → ℕ
word_of text places j = bucket_of (name_there text places j) * bucket_words + j / word_bits

-- a table of no bits notes no name
pub none_noted : (text : Bytes) (places : List ℕ) → Noted (replicate (bucket_count * bucket_words) 0) text places 0
none_noted text places =
    record {
      size = length-replicate {A = ℕ} (bucket_count * bucket_words) 0;
      below = λ h k p l m s. absurd (not_both s (rw (zero_there (bucket_count * bucket_words) (h * bucket_words + k))
          (bit_of_zero p)));
      each = λ j l. absurd (not-suc-le-zero l);
    }

-- the name n is noted by its bit in its bucket
pub one_noted : (table : List ℕ) (text : Bytes) (places : List ℕ) (n w : ℕ) → n / word_bits < bucket_words
    → Noted table text places n
    → ((q : ℕ) → bit w q ≡ (bit (get_or table (word_of text places n) 0) q || eqb q (n % word_bits)))
    → Noted (set table (word_of text places n) w) text places (suc n)
one_noted table text places n w few noted with_bit =
    record {
      size = length-set table at w ∙ noted.size;
      below = λ h k p l m s.
          ⊎_elim (λ o. let before = noted.below h k p l m o in omega arith) (λ new. last h k p l new.0 new.1)
          (old_or_new table at (n % word_bits) w fits with_bit (h * bucket_words + k) p s);
      each = λ j l. ⊎_elim (λ e. rw e (new_there table at (n % word_bits) w fits with_bit))
          (λ k. old_stays table at (n % word_bits) w fits with_bit (word_of text places j) (j % word_bits)
          (noted.each j k)) (last_or_below l);
    }
  where
    at : ℕ
    at = word_of text places n

    fits : at < length table
    fits = omega (arith, bucket_below (name_there text places n), noted.size)

    last : (h k p : ℕ) → k < bucket_words → h * bucket_words + k ≡ at → p ≡ n % word_bits → k * word_bits + p < suc n
    last h k p l e f = omega arith

-- names that are noted before number n stand in the text
pub noted_standing : {table : List ℕ} {text : Bytes} {places : List ℕ} {n : ℕ} → Noted table text places n
    → Inside text places
    → n ≤ length places → BitsNamed table text places
noted_standing noted inside few =
    record {
      part = λ h k p l m s. inside_part inside (k * word_bits + p) (let before = noted.below h k p l m s
          in omega arith);
    }
