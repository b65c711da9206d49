-- Lists that are the same place by place are equal, where the test of two elements is equality; and an element is the
-- same as a later one exactly where those of two places are. Each law is an induction on the list. Assumes nothing.
use Rattle.std.specs.Prelude.{ℕ, zero, suc, ◌<◌, ◌≡◌, refl, Bool, false, length, get_or}
use Rattle.std.proofs.Common.{not-suc-le-zero, le_of_suc-le-suc, arith, ap}
use Rattle.std.proofs.Math.Bool.{So}
use Rattle.std.proofs.lemmas.Bool.{false≢true}
use mathlib.Core.List.{List, [], ◌∷◌, Memᴰ}
use Rattle.spec.specs.Vocabulary.{any, repeats, same_by}
use Rattle.bits.specs.Truth.{and_intro, and_left, and_right, or_left, or_right, or_fails}
use Rattle.lists.specs.TestLaws.{any_intro, none_intro, member_at, place_of}

-- the test passes only for equals
abbrev pub OnlyEquals : {A : Type 0} → (A → A → Bool) → Type 0
OnlyEquals {A} same = (a b : A) → So (same a b) → a ≡ b

-- the test passes for an element and itself
abbrev pub Reflexive : {A : Type 0} → (A → A → Bool) → Type 0
Reflexive {A} same = (a : A) → So (same a a)

module _ {A : Type 0} where
  -- lists that are the same place by place are equal
  pub same_by_equal : (same : A → A → Bool) → OnlyEquals same → OnlyEquals (same_by same)
  same_by_equal same only [] [] e = refl
  same_by_equal same only [] (b ∷ others) e = absurd (false≢true e)
  same_by_equal same only (a ∷ rest) [] e = absurd (false≢true e)
  same_by_equal same only (a ∷ rest) (b ∷ others) e =
      let here : a ≡ b = only a b (and_left (same a b) (same_by same rest others) e) in
      let later : rest ≡ others = same_by_equal same only rest others (and_right (same a b) (same_by same rest others)
      e) in
      cc

  pub same_by_reflexive : (same : A → A → Bool) → Reflexive same → Reflexive (same_by same)
  same_by_reflexive same self [] = refl
  same_by_reflexive same self (a ∷ rest) = and_intro (same a a) (same_by same rest rest) (self a)
      (same_by_reflexive same self rest)

  pub same_by_length : (same : A → A → Bool) (l others : List A) → So (same_by same l others) → length l ≡ length others
  same_by_length same [] [] e = refl
  same_by_length same [] (b ∷ others) e = absurd (false≢true e)
  same_by_length same (a ∷ rest) [] e = absurd (false≢true e)
  same_by_length same (a ∷ rest) (b ∷ others) e =
      ap suc (same_by_length same rest others (and_right (same a b) (same_by same rest others) e))

  -- ---- no element stands twice

  -- an element that is the same as that of a later place
  pub repeats_intro : (same : A → A → Bool) (d : A) (l : List A) (i j : ℕ) → i < j → j < length l
      → So (same (get_or l i d) (get_or l j d))
      → So (repeats same l)
  repeats_intro same d [] i j h k p = absurd (not-suc-le-zero k)
  repeats_intro same d (a ∷ rest) i zero h k p = absurd (not-suc-le-zero h)
  repeats_intro same d (a ∷ rest) zero (suc j) h k p =
      or_left (any (same a) rest) (repeats same rest)
      (any_intro (same a) rest (member_at rest j d (le_of_suc-le-suc k)) p)
  repeats_intro same d (a ∷ rest) (suc i) (suc j) h k p =
      or_right (any (same a) rest) (repeats same rest)
      (repeats_intro same d rest i j (le_of_suc-le-suc h) (le_of_suc-le-suc k) p)

  -- no element is the same as that of a later place
  pub repeats_nowhere : (same : A → A → Bool) (d : A) (l : List A)
      → ((i j : ℕ) → i < j → j < length l → same (get_or l i d) (get_or l j d) ≡ false) → repeats same l ≡ false
  repeats_nowhere same d [] h = refl
  repeats_nowhere same d (a ∷ rest) h =
      or_fails (any (same a) rest) (repeats same rest) (none_intro (same a) rest unlike)
      (repeats_nowhere same d rest (λ i j low high. h (suc i) (suc j) (omega arith) (omega arith)))
    where
      unlike : (b : A) → Memᴰ b rest → same a b ≡ false
      unlike b m =
          let r = place_of rest d m in
          rw r.there at (h 0 (suc r.place) (omega arith) (omega (arith, r.within)))
