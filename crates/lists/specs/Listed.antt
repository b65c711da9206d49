-- Parts f 0, f 1, .. f (count - 1), one after the other: each part stands behind those before it, a front of them is
-- no longer than all, and all together have at most as many elements as parts of the greatest length would. Assumes
-- nothing.
use Rattle.std.specs.Prelude.{ℕ, zero, suc, ◌+◌, ◌*◌, ◌≤◌, ◌<◌, ◌≡◌, List, [], ◌∷◌, ◌++◌, length}
use Rattle.std.proofs.Common.{suc-mul, le_of_suc-le-suc, lt-suc_self, not-suc-le-zero, eq-or-lt_of_le, add-one, arith, ap, ◌∙◌, ⊎_elim, append-nil, length-append}
use Rattle.std.proofs.Math.Nat.{le_step}
use Rattle.spec.specs.Vocabulary.{list_of, concat}
use Rattle.lists.specs.JoinLaws.{concat_append}
use Rattle.lists.specs.ListOfLaws.{list_of_last, list_of_same}

module _ {A : Type 0} where
  -- the parts by number, one after the other
  abbrev pub listed : ℕ → (ℕ → List A) → List A
  listed count f = concat (list_of count f)

  -- one part more
  pub listed_suc : (count : ℕ) (f : ℕ → List A) → listed (suc count) f ≡ listed count f ++ f count
  listed_suc count f =
      ap concat (list_of_last count f) ∙ concat_append (list_of count f) (f count ∷ [])
      ∙ ap (λ (l : List A). listed count f ++ l) (append-nil (f count))

  pub listed_more : (count : ℕ) (f : ℕ → List A) → listed (count + 1) f ≡ listed count f ++ f count
  listed_more count f = rw (add-one count) (listed_suc count f)

  pub listed_same : (count : ℕ) (f g : ℕ → List A) → ((i : ℕ) → i < count → f i ≡ g i) → listed count f ≡ listed count g
  listed_same count f g h = rw (list_of_same count f g h)

  listed_grows : (count : ℕ) (f : ℕ → List A)
      → length (listed (suc count) f) ≡ length (listed count f) + length (f count)
  listed_grows count f = ap length (listed_suc count f) ∙ length-append (listed count f) (f count)

  -- parts up to one of them are no longer than all
  pub listed_front : (i count : ℕ) (f : ℕ → List A) → i < count → length (listed i f ++ f i) ≤ length (listed count f)
  listed_front i zero f h = absurd (not-suc-le-zero h)
  listed_front i (suc count) f h =
      ⊎_elim (λ (e : i ≡ count). rw e (omega (arith, ap length (listed_suc count f))))
      (λ (l : i < count). omega (arith, listed_front i count f l, listed_grows count f))
      (eq-or-lt_of_le (le_of_suc-le-suc h))

  -- parts of no more than a length each
  pub listed_length : (count most : ℕ) (f : ℕ → List A) → ((i : ℕ) → i < count → length (f i) ≤ most)
      → length (listed count f) ≤ count * most
  listed_length zero most f h = omega arith
  listed_length (suc count) most f h =
      let front : length (listed count f) ≤ count * most = listed_length count most f (λ i l. h i (le_step l)) in
      omega (arith, suc-mul count most, listed_grows count f, h count (lt-suc_self count))

  -- parts of one length
  pub listed_even : (count each : ℕ) (f : ℕ → List A) → ((i : ℕ) → i < count → length (f i) ≡ each)
      → length (listed count f) ≡ count * each
  listed_even zero each f h = omega arith
  listed_even (suc count) each f h =
      listed_grows count f
      ∙ rw (listed_even count each f (λ i l. h i (le_step l)), h count (lt-suc_self count), suc-mul count each)
