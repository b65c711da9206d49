-- The numbers below a bound that pass a test, as a list in rising order. It grows at its end, as the loop does that
-- counts up, so each law is an induction on the bound: what a test says of the list is what the definitions of crate
-- bits say of the numbers.
use Rattle.std.specs.Prelude.{ℕ, zero, suc, ◌+◌, ◌≤◌, ◌<◌, ◌≡◌, refl, ◌⊎◌, Bool, true, false, ◌&&◌, not, eqb, length}
use Rattle.std.proofs.Common.{add-zero, add-suc, le_refl, not-suc-le-zero, eq-or-lt_of_le, arith, sym, ap, ◌∙◌, inl, inr, ⊎_elim, eq-eqb, ne_eqb, length-append}
use Rattle.std.proofs.Math.Nat.{le_step}
use Rattle.std.proofs.Math.Bool.{So, and-true, and_comm}
use Rattle.std.proofs.lemmas.Bool.{false≢true}
use mathlib.Core.List.Memᴰ
use mathlib.Core.List.{List, [], ◌∷◌, ◌++◌, map, append-nil, append_assoc, Memᴰ}
use Rattle.std.proofs.Math.Option.{none, some}
use Rattle.spec.specs.Vocabulary.{every_below, all, keep, filter, first}
use Rattle.bits.specs.Truth.{implies, not_both, and_left, and_right}
use Rattle.bits.specs.Counting.{one_if, count_below, Lowest}
use Rattle.bits.specs.Laws.Below.{last_or_below}
use Rattle.lists.specs.AppendLaws.{map_append, filter_append, all_append, first_append}
use Rattle.lists.specs.Ordered.{Ordered, ordered_append}

-- the numbers below n that pass f
unfoldable pub passing_below : ℕ → (ℕ → Bool) → List ℕ
passing_below zero f = []
passing_below (suc n) f = passing_below n f ++ keep (f n) n []

pub passing_ext : (n : ℕ) (f g : ℕ → Bool) → ((i : ℕ) → i < n → f i ≡ g i) → passing_below n f ≡ passing_below n g
unfolding passing_below
passing_ext zero f g h = refl
passing_ext (suc n) f g h = rw (passing_ext n f g (λ i l. h i (le_step l)), h n (le_refl (suc n)))

-- ---- which numbers stand in it, and in which order

-- i is below n and passes
pub record PassesBelow (n : ℕ) (f : ℕ → Bool) (i : ℕ) : Type 0 where
  pub within : i < n
  pub holds : So (f i)

last_only : (b : Bool) (n : ℕ) {i : ℕ} → Memᴰ i (keep b n []) → (i ≡ n) × So b
last_only true n m = (⊎_elim (λ e. e) (λ k. absurd (Memᴰ.not-nil k)) (Memᴰ.cases_cons m), refl)
last_only false n m = absurd (Memᴰ.not-nil m)

last_there : (b : Bool) (n : ℕ) → So b → Memᴰ n (keep b n [])
last_there true n p = Memᴰ.head refl
last_there false n p = absurd (false≢true p)

pub passing_only : (n : ℕ) (f : ℕ → Bool) {i : ℕ} → Memᴰ i (passing_below n f) → PassesBelow n f i
unfolding passing_below
passing_only zero f m = absurd (Memᴰ.not-nil m)
passing_only (suc n) f {i} m =
    ⊎_elim (λ k. let r = passing_only n f k in record { within = le_step r.within; holds = r.holds }) last
    (Memᴰ.append_cases (passing_below n f) m)
  where
    last : Memᴰ i (keep (f n) n []) → PassesBelow (suc n) f i
    last k = let r = last_only (f n) n k in rw r.0 (record { within = le_refl (suc n); holds = r.1 })

pub passing_member : (n : ℕ) (f : ℕ → Bool) {i : ℕ} → i < n → So (f i) → Memᴰ i (passing_below n f)
unfolding passing_below
passing_member zero f l p = absurd (not-suc-le-zero l)
passing_member (suc n) f {i} l p =
    ⊎_elim (λ e. rw e (Memᴰ.append_right (passing_below n f) (last_there (f n) n (rw e at p))))
    (λ k. Memᴰ.append_left (keep (f n) n []) (passing_member n f k p)) (last_or_below l)

pub passing_rises : (n : ℕ) (f : ℕ → Bool) → Ordered ◌<◌ (passing_below n f)
unfolding passing_below
passing_rises zero f = tt
passing_rises (suc n) f =
    ordered_append ◌<◌ (passing_below n f) (keep (f n) n []) (passing_rises n f) (alone (f n))
    (λ i j m k. rw (last_only (f n) n k).0 (passing_only n f m).within)
  where
    alone : (b : Bool) → Ordered ◌<◌ (keep b n [])
    alone true = (λ j m. absurd (Memᴰ.not-nil m), tt)
    alone false = tt

-- ---- tests over it

pub passing_filter : (n : ℕ) (f test : ℕ → Bool) → filter test (passing_below n f) ≡ passing_below n (λ i. f i
    && test i)
unfolding passing_below
passing_filter zero f test = refl
passing_filter (suc n) f test =
    rw (filter_append test (passing_below n f) (keep (f n) n []), passing_filter n f test)
    (ap (λ (l : List ℕ). passing_below n (λ i. f i && test i) ++ l) (last (f n)))
  where
    last : (b : Bool) → filter test (keep b n []) ≡ keep (b && test n) n []
    last true = refl
    last false = refl

pub passing_length : (n : ℕ) (f : ℕ → Bool) → length (passing_below n f) ≡ count_below n f
unfolding passing_below count_below
passing_length zero f = refl
passing_length (suc n) f =
    rw (length-append (passing_below n f) (keep (f n) n []), passing_length n f, last (f n))
  where
    last : (b : Bool) → length (keep b n []) ≡ one_if b
    last true = refl
    last false = refl

pub passing_all : (n : ℕ) (f test : ℕ → Bool) → all test (passing_below n f) ≡ every_below n
    (λ i. implies (f i) (test i))
unfolding passing_below every_below
passing_all zero f test = refl
passing_all (suc n) f test =
    rw (all_append test (passing_below n f) (keep (f n) n []), passing_all n f test, last (f n))
    (and_comm (every_below n (λ i. implies (f i) (test i))) (implies (f n) (test n)))
  where
    last : (b : Bool) → all test (keep b n []) ≡ implies b (test n)
    last true = and-true (test n)
    last false = refl

-- ---- the first that passes another test

pub passing_first_none : (n : ℕ) (f test : ℕ → Bool) → ((i : ℕ) → i < n → (f i && test i) ≡ false)
    → first test (passing_below n f) ≡ none
unfolding passing_below
passing_first_none zero f test h = refl
passing_first_none (suc n) f test h =
    rw (first_append test (passing_below n f) (keep (f n) n []), passing_first_none n f test (λ i l. h i (le_step l)))
    (last (f n) (h n (le_refl (suc n))))
  where
    last : (b : Bool) → (b && test n) ≡ false → first test (keep b n []) ≡ none
    last true e = rw e
    last false e = refl

pub passing_first : (n : ℕ) (f test : ℕ → Bool) {i : ℕ} → Lowest n (λ j. f j && test j) i
    → first test (passing_below n f) ≡ some i
unfolding passing_below
passing_first zero f test w = absurd (not-suc-le-zero w.within)
passing_first (suc n) f test {i} w =
    rw (first_append test (passing_below n f) (keep (f n) n []))
    (⊎_elim (λ e. rw (passing_first_none n f test (λ j l. w.first j (rw e l)))
    (last e (f n) refl (rw e at w.holds)))
    (λ l. rw (passing_first n f test (record { within = l; holds = w.holds; first = w.first })))
    (last_or_below w.within))
  where
    last : i ≡ n → (b : Bool) → f n ≡ b → So (f n && test n) → first test (keep b n []) ≡ some i
    last e true g p = rw (and_right (f n) (test n) p, e)
    last e false g p = absurd (not_both (and_left (f n) (test n) p) g)

-- ---- the lowest, and the others

pub passing_none : (n : ℕ) (f : ℕ → Bool) → ((i : ℕ) → i < n → f i ≡ false) → passing_below n f ≡ []
unfolding passing_below
passing_none zero f h = refl
passing_none (suc n) f h = rw (passing_none n f (λ i l. h i (le_step l)), h n (le_refl (suc n)))

pub passing_lowest : (n : ℕ) (f : ℕ → Bool) {i : ℕ} → Lowest n f i → passing_below n f ≡ i ∷ passing_below n (λ j. f j
    && not (eqb j i))
unfolding passing_below
passing_lowest zero f w = absurd (not-suc-le-zero w.within)
passing_lowest (suc n) f {i} w =
    ⊎_elim last (λ l. earlier l (passing_lowest n f (record { within = l; holds = w.holds; first = w.first })))
    (last_or_below w.within)
  where
    others : ℕ → Bool
    others j = f j && not (eqb j i)

    last : i ≡ n → passing_below n f ++ keep (f n) n [] ≡ i ∷ passing_below n others ++ keep (others n) n []
    last e =
        let none_before : (j : ℕ) → j < n → f j ≡ false = λ j l. w.first j (rw e l) in
        rw (
          passing_none n f none_before,
          passing_none n others (λ j l. rw (none_before j l)),
          rw e at w.holds,
          eq-eqb n i (sym e),
          e,
        )

    earlier : i < n → passing_below n f ≡ i ∷ passing_below n others → passing_below n f ++ keep (f n) n [] ≡ i ∷
        passing_below n others ++ keep (others n) n []
    earlier l e = rw (e, ne_eqb n i (λ same. omega arith), and-true (f n))

-- ---- a greater bound

-- nothing more passes from m on
pub passing_until : (m n : ℕ) (f : ℕ → Bool) → m ≤ n → ((i : ℕ) → m ≤ i → i < n → f i ≡ false)
    → passing_below n f ≡ passing_below m f
unfolding passing_below
passing_until m zero f l h = let e : m ≡ 0 = omega arith in rw e
passing_until m (suc n) f l h = choose (eq-or-lt_of_le l) (λ k. passing_until m n f k (λ i a b. h i a (le_step b)))
  where
    choose : (m ≡ suc n) ⊎ (m < suc n) → (m ≤ n → passing_below n f ≡ passing_below m f)
        → passing_below n f ++ keep (f n) n [] ≡ passing_below m f
    choose (inl e) earlier = rw e
    choose (inr k) earlier =
        let at_most : m ≤ n = omega arith in
        rw (h n at_most (le_refl (suc n))) (append-nil (passing_below n f) ∙ earlier at_most)

-- n itself passes
pub passing_next : (n : ℕ) (f : ℕ → Bool) → So (f n) → passing_below (suc n) f ≡ passing_below n f ++ n ∷ []
unfolding passing_below
passing_next n f p = rw p

-- the numbers below a + b are those below a, and those that are a and more
pub passing_add : (a b : ℕ) (f : ℕ → Bool) → passing_below (a + b) f ≡ passing_below a f ++ map (λ i. a + i)
    (passing_below b (λ i. f (a + i)))
unfolding passing_below
passing_add a zero f = rw (add-zero a) (sym (append-nil (passing_below a f)))
passing_add a (suc b) f =
    rw (
      add-suc a b,
      passing_add a b f,
      map_append (λ i. a + i) (passing_below b (λ i. f (a + i)))
          (keep (f (a + b)) b []),
      last (f (a + b)),
    )
    (append_assoc (passing_below a f) (map (λ i. a + i) (passing_below b (λ i. f (a + i))))
    (keep (f (a + b)) (a + b) []))
  where
    last : (passes : Bool) → map (λ i. a + i) (keep passes b []) ≡ keep passes (a + b) []
    last true = refl
    last false = refl
