-- What a passed or failed test over a list says of its members, and back. Each law is an induction on the list: a
-- member of `a ∷ rest` is a, or is a member of rest. Assumes nothing.
use Rattle.std.specs.Prelude.{ℕ, zero, suc, ◌<◌, ◌≡◌, refl, ◌⊎◌, Bool, true, false, ◌||◌, eqb, length, get_or}
use Rattle.std.proofs.Common.{le_of_suc-le-suc, not-suc-le-zero, arith, sym, inl, inr, ⊎_elim, eqb-true, eq-eqb}
use Rattle.std.proofs.Math.Bool.{So, or-false, or_assoc}
use Rattle.std.proofs.lemmas.Bool.{false≢true}
use mathlib.Core.List.Memᴰ
use mathlib.Core.List.{List, [], ◌∷◌, ◌++◌, Memᴰ}
use Rattle.std.proofs.Math.Option.{none, some}
use Rattle.spec.specs.Vocabulary.{any, all, keep, filter, first}
use Rattle.spec.specs.Text.{same_bytes}
use Rattle.bits.specs.Truth.{not_both, fails_unless, and_intro, and_left, and_right, or_left, or_right, or_cases}

module _ {A : Type 0} where
  pub all_intro : (test : A → Bool) (l : List A) → ((a : A) → Memᴰ a l → So (test a)) → So (all test l)
  all_intro test [] h = refl
  all_intro test (a ∷ rest) h =
      and_intro (test a) (all test rest) (h a (Memᴰ.head refl))
      (all_intro test rest (λ b m. h b (Memᴰ.tail m)))

  pub all_elim : (test : A → Bool) (l : List A) → So (all test l) → {a : A} → Memᴰ a l → So (test a)
  all_elim test [] e m = absurd (Memᴰ.not-nil m)
  all_elim test (b ∷ rest) e {a} m = choose (all_elim test rest (and_right (test b) (all test rest) e))
      (Memᴰ.cases_cons m)
    where
      choose : (Memᴰ a rest → So (test a)) → (a ≡ b) ⊎ Memᴰ a rest → So (test a)
      choose later (inl p) = rw p (and_left (test b) (all test rest) e)
      choose later (inr n) = later n

  -- a member that passes
  pub record Passing (test : A → Bool) (l : List A) : Type 0 where
    pub element : A
    pub member : Memᴰ element l
    pub passes : So (test element)

  pub any_intro : (test : A → Bool) (l : List A) {a : A} → Memᴰ a l → So (test a) → So (any test l)
  any_intro test [] m p = absurd (Memᴰ.not-nil m)
  any_intro test (b ∷ rest) {a} m p = choose (λ n. any_intro test rest n p) (Memᴰ.cases_cons m)
    where
      choose : (Memᴰ a rest → So (any test rest)) → (a ≡ b) ⊎ Memᴰ a rest → So (any test (b ∷ rest))
      choose later (inl e) = or_left (test b) (any test rest) (rw e at p)
      choose later (inr n) = or_right (test b) (any test rest) (later n)

  pub any_elim : (test : A → Bool) (l : List A) → So (any test l) → Passing test l
  any_elim test [] e = absurd (false≢true e)
  any_elim test (b ∷ rest) e = choose (any_elim test rest) (or_cases (test b) (any test rest) e)
    where
      choose : (So (any test rest) → Passing test rest) → So (test b) ⊎ So (any test rest) → Passing test (b ∷ rest)
      choose later (inl p) = record { element = b; member = Memᴰ.head refl; passes = p }
      choose later (inr q) =
          let r = later q in record { element = r.element; member = Memᴰ.tail r.member; passes = r.passes }

  -- one element more at the end
  pub any_last : (test : A → Bool) (l : List A) (a : A) → any test (l ++ a ∷ []) ≡ (any test l || test a)
  any_last test [] a = or-false (test a)
  any_last test (b ∷ rest) a = rw (any_last test rest a) (sym (or_assoc (test b) (any test rest) (test a)))

  pub none_intro : (test : A → Bool) (l : List A) → ((a : A) → Memᴰ a l → test a ≡ false) → any test l ≡ false
  none_intro test l h =
      fails_unless (any test l) (λ e. let r = any_elim test l e in not_both r.passes (h r.element r.member))

  pub none_elim : (test : A → Bool) (l : List A) → any test l ≡ false → {a : A} → Memᴰ a l → test a ≡ false
  none_elim test l e {a} m = fails_unless (test a) (λ p. not_both (any_intro test l m p) e)

  pub keep_member : (b : Bool) (a : A) (rest : List A) → So b → Memᴰ a (keep b a rest)
  keep_member true a rest p = Memᴰ.head refl
  keep_member false a rest p = absurd (false≢true p)

  pub keep_later : (b : Bool) (a : A) {rest : List A} {c : A} → Memᴰ c rest → Memᴰ c (keep b a rest)
  keep_later true a m = Memᴰ.tail m
  keep_later false a m = m

  pub keep_cases : (b : Bool) (a : A) {rest : List A} {c : A} → Memᴰ c (keep b a rest)
      → (So b × (c ≡ a)) ⊎ Memᴰ c rest
  keep_cases true a {rest} {c} m = ⊎_elim (λ e. inl (refl, e)) (λ n. inr n) (Memᴰ.cases_cons m)
  keep_cases false a m = inr m

  pub filter_member : (test : A → Bool) (l : List A) {a : A} → Memᴰ a l → So (test a) → Memᴰ a (filter test l)
  filter_member test [] m p = absurd (Memᴰ.not-nil m)
  filter_member test (b ∷ rest) {a} m p = choose (λ n. filter_member test rest n p) (Memᴰ.cases_cons m)
    where
      choose : (Memᴰ a rest → Memᴰ a (filter test rest)) → (a ≡ b) ⊎ Memᴰ a rest
          → Memᴰ a (filter test (b ∷ rest))
      choose later (inl e) = Memᴰ.cast e (keep_member (test b) b (filter test rest) (rw e at p))
      choose later (inr n) = keep_later (test b) b (later n)

  -- a member of what passed: a member that passes
  pub record Kept (test : A → Bool) (l : List A) (a : A) : Type 0 where
    pub member : Memᴰ a l
    pub passes : So (test a)

  pub filter_kept : (test : A → Bool) (l : List A) {a : A} → Memᴰ a (filter test l) → Kept test l a
  filter_kept test [] m = absurd (Memᴰ.not-nil m)
  filter_kept test (b ∷ rest) {a} m = choose (filter_kept test rest) (keep_cases (test b) b m)
    where
      choose : (Memᴰ a (filter test rest) → Kept test rest a) → (So (test b) × (a ≡ b)) ⊎ Memᴰ a
          (filter test rest)
          → Kept test (b ∷ rest) a
      choose later (inl h) = record { member = Memᴰ.head h.1; passes = rw h.1 h.0 }
      choose later (inr n) = let r = later n in record { member = Memᴰ.tail r.member; passes = r.passes }

  nothing_found : {a : A} → none ≡ some a → ⊥
  nothing_found e = let z : ◌≡◌ {A = ℕ} 0 1 = cc in omega arith

  -- what `first` finds is a member that passes; where it finds none, no member passes
  pub first_passes : (test : A → Bool) (l : List A) {a : A} → first test l ≡ some a → Kept test l a
  first_passes test [] {a} e = absurd (nothing_found e)
  first_passes test (b ∷ rest) {a} e = choose (test b) refl (first_passes test rest)
    where
      choose : (t : Bool) → test b ≡ t → (first test rest ≡ some a → Kept test rest a) → Kept test (b ∷ rest) a
      choose true p later =
          let same : b ≡ a = (let here : some b ≡ some a = rw p at e in cc) in
          record { member = Memᴰ.head (sym same); passes = rw same at p }
      choose false p later =
          let r = later (rw p at e) in record { member = Memᴰ.tail r.member; passes = r.passes }

  pub first_misses : (test : A → Bool) (l : List A) → first test l ≡ none → {a : A} → Memᴰ a l → test a ≡ false
  first_misses test [] e m = absurd (Memᴰ.not-nil m)
  first_misses test (b ∷ rest) e {a} m = choose (test b) refl (λ n. first_misses test rest n)
    where
      choose : (t : Bool) → test b ≡ t → (first test rest ≡ none → Memᴰ a rest → test a ≡ false) → test a ≡ false
      choose true p later = absurd (nothing_found (sym (rw p at e)))
      choose false p later = ⊎_elim (λ q. rw q p) (λ n. later (rw p at e) n) (Memᴰ.cases_cons m)

  -- an element by its place is a member, and a member has a place
  pub member_at : (l : List A) (i : ℕ) (d : A) → i < length l → Memᴰ (get_or l i d) l
  member_at [] i d h = absurd (not-suc-le-zero h)
  member_at (a ∷ rest) zero d h = Memᴰ.head refl
  member_at (a ∷ rest) (suc i) d h = Memᴰ.tail (member_at rest i d (le_of_suc-le-suc h))

  pub record At (l : List A) (a d : A) : Type 0 where
    pub place : ℕ
    pub within : place < length l
    pub there : get_or l place d ≡ a

  pub place_of : (l : List A) {a : A} (d : A) → Memᴰ a l → At l a d
  place_of [] d m = absurd (Memᴰ.not-nil m)
  place_of (b ∷ rest) {a} d m = choose (place_of rest d) (Memᴰ.cases_cons m)
    where
      choose : (Memᴰ a rest → At rest a d) → (a ≡ b) ⊎ Memᴰ a rest → At (b ∷ rest) a d
      choose later (inl e) = record { place = 0; within = omega arith; there = sym e }
      choose later (inr n) = let r = later n in record {
        place = suc r.place;
        within = omega (arith, r.within);
        there = r.there;
      }

-- equal bytes are the same bytes, and back
pub same_bytes_equal : (a b : List ℕ) → So (same_bytes a b) → a ≡ b
same_bytes_equal [] [] e = refl
same_bytes_equal [] (y ∷ b) e = absurd (false≢true e)
same_bytes_equal (x ∷ a) [] e = absurd (false≢true e)
same_bytes_equal (x ∷ a) (y ∷ b) e =
    let here : x ≡ y = eqb-true x y (and_left (eqb x y) (same_bytes a b) e) in
    let later : a ≡ b = same_bytes_equal a b (and_right (eqb x y) (same_bytes a b) e) in
    cc

pub same_bytes_refl : (a : List ℕ) → So (same_bytes a a)
same_bytes_refl [] = refl
same_bytes_refl (x ∷ a) = and_intro (eqb x x) (same_bytes a a) (eq-eqb x x refl) (same_bytes_refl a)

pub equal_same_bytes : {a b : List ℕ} → a ≡ b → So (same_bytes a b)
equal_same_bytes {a} {b} e = rw e (same_bytes_refl b)
