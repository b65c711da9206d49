-- What a grouping is where going together means having one key: its classes are exactly the keys, so there are as
-- many classes as keys. A number joins the lowest class that takes it; by its members' keys that is the class of its
-- own key, if there is one yet, and else a new class opens. Assumes nothing.
use Rattle.std.specs.Prelude.{ℕ, zero, suc, ◌+◌, ◌≤◌, ◌<◌, ◌≡◌, refl, ◌⊎◌, Bool, false, ◌||◌, List, [], ◌∷◌, length}
use Rattle.std.proofs.Common.{sym, ap, ◌∙◌, inl, inr, eq-or-lt_of_le, lt-suc_self, lt_trans, not-suc-le-zero, arith}
use Rattle.std.proofs.Math.Logic.{⊎_elim}
use Rattle.std.proofs.Math.Bool.{So, or-false}
use Rattle.std.proofs.Math.Nat.{le_step}
use borrow.Author.Tests.{eqb-true, eqb-false, eq-eqb, ne_eqb}
use Rattle.std.proofs.Math.Dec.{eqb}
use Rattle.spec.specs.Cover.{used, joins, grouping}
use Rattle.bits.specs.Truth.{passes_or_fails, not_both, fails_unless, or_right}
use Rattle.bits.specs.Counting.{some_below, count_below, Lowest}
use Rattle.bits.specs.Laws.Below.{last_or_below, below_or_from, some_below_intro, some_below_elim, none_below_intro}
use Rattle.bits.specs.Laws.Lowest.{lowest_below_intro}
use Rattle.bits.specs.Laws.Count.{count_below_le, count_below_ext, count_below_none_intro, count_below_all_intro}
use Rattle.bits.specs.Laws.CountJoin.{count_below_with}
use Rattle.lists.specs.Classing.{class_in, Valid, Grown}
use Rattle.lists.specs.PlacementLaws.{class_in_latest, class_in_earlier, class_below_used, joins_intro}
use Rattle.lists.specs.PlacementLaws.{joins_elim, valid_elim, grown_member}
use Rattle.lists.specs.GroupingLaws.{class_taken, grouping_length, grouping_grown, grouping_valid}

-- two numbers have one key
abbrev pub same_key : (ℕ → ℕ) → ℕ → ℕ → Bool
same_key key i j = eqb (key i) (key j)

-- some number below n has key k
abbrev pub has_key : (ℕ → ℕ) → ℕ → ℕ → Bool
has_key key n k = some_below n (λ i. eqb (key i) k)

-- the classes of the first n numbers are exactly their keys
pub record KeyedBy (key : ℕ → ℕ) (n : ℕ) (class : ℕ → ℕ) : Type 0 where
  pub one_key : (i j : ℕ) → i < n → j < n → class i ≡ class j → key i ≡ key j
  pub one_class : (i j : ℕ) → i < n → j < n → key i ≡ key j → class i ≡ class j

-- the grouping of the first n numbers by key
abbrev pub by_key : (ℕ → ℕ) → ℕ → List ℕ
by_key key n = grouping (same_key key) n

module _ (key : ℕ → ℕ) where
  -- ---- classes and keys of a placement

  -- in a valid placement numbers of one class have one key
  class_has_one_key : (placed : List ℕ) → Valid (same_key key) placed
      → (i j : ℕ) → i < length placed → j < length placed → class_in placed i ≡ class_in placed j → key i ≡ key j
  class_has_one_key placed v i j k l e =
      ⊎_elim (λ (h : i < j). sym (eqb-true (key j) (key i) (valid_elim (same_key key) placed v j i h l (sym e))))
      (λ (h : j ≤ i).
      ⊎_elim (λ s. ap key (sym s)) (λ m. eqb-true (key i) (key j) (valid_elim (same_key key) placed v i j m k e))
      (eq-or-lt_of_le h))
      (below_or_from i j)

  -- the next number takes the class of its key
  takes_class_of_key : (placed : List ℕ) → Grown placed → KeyedBy key (length placed) (class_in placed)
      → (j : ℕ) → j < length placed → key (length placed) ≡ key j
      → class_taken (same_key key) (length placed) placed ≡ class_in placed j
  takes_class_of_key placed g keyed j l e =
      rw (lowest_below_intro (used placed) (joins (same_key key) (length placed) placed) lowest)
    where
      lower_takes_none : (c : ℕ) → c < class_in placed j → So (joins (same_key key) (length placed) placed c) → ⊥
      lower_takes_none c k p =
          let m = grown_member placed g (lt_trans k (class_below_used placed l)) in
          let s = joins_elim (same_key key) (length placed) placed c p m.within m.classed in
          let same = sym (eqb-true (key (length placed)) (key m.number) s) ∙ e in
          omega (arith, m.classed, keyed.one_class m.number j m.within l same)

      lowest : Lowest (used placed) (joins (same_key key) (length placed) placed) (class_in placed j)
      lowest = record {
        within = class_below_used placed l;
        holds =
            joins_intro (same_key key) (length placed) placed (class_in placed j)
            (λ i k s. eq-eqb (key (length placed)) (key i) (e ∙ keyed.one_key j i l k (sym s)));
        first = λ c k. fails_unless (joins (same_key key) (length placed) placed c) (lower_takes_none c k);
      }

  -- one more number, in the class of its key
  one_class_more : (a : ℕ) (placed : List ℕ) → KeyedBy key (length placed) (class_in placed)
      → ((j : ℕ) → j < length placed → key (length placed) ≡ key j → a ≡ class_in placed j)
      → (i j : ℕ) → i < suc (length placed) → j < suc (length placed) → key i ≡ key j
      → class_in (a ∷ placed) i ≡ class_in (a ∷ placed) j
  one_class_more a placed keyed latest i j k l e = split (last_or_below k) (last_or_below l)
    where
      split : (i ≡ length placed) ⊎ (i < length placed) → (j ≡ length placed) ⊎ (j < length placed)
          → class_in (a ∷ placed) i ≡ class_in (a ∷ placed) j
      split (inl p) (inl q) = class_in_latest a placed p ∙ sym (class_in_latest a placed q)
      split (inl p) (inr q) = class_in_latest a placed p ∙ latest j q (ap key (sym p) ∙ e)
          ∙ sym (class_in_earlier a placed q)
      split (inr p) (inl q) = class_in_earlier a placed p ∙ sym (latest i p (ap key (sym q) ∙ sym e))
          ∙ sym (class_in_latest a placed q)
      split (inr p) (inr q) = class_in_earlier a placed p ∙ keyed.one_class i j p q e
          ∙ sym (class_in_earlier a placed q)

  -- one number fewer
  keyed_earlier : (a : ℕ) (earlier : List ℕ) → KeyedBy key (suc (length earlier)) (class_in (a ∷ earlier))
      → KeyedBy key (length earlier) (class_in earlier)
  keyed_earlier a earlier keyed = record {
    one_key = λ i j k l e.
        keyed.one_key i j (le_step k) (le_step l) (class_in_earlier a earlier k ∙ e
        ∙ sym (class_in_earlier a earlier l));
    one_class = λ i j k l e.
        sym (class_in_earlier a earlier k) ∙ keyed.one_class i j (le_step k) (le_step l) e
        ∙ class_in_earlier a earlier l;
  }

  -- ---- the classes of a grouping by key

  keyed_by_length : (n : ℕ) → KeyedBy key (length (by_key key n)) (class_in (by_key key n))
  keyed_by_length zero = record {
    one_key = λ i j k. absurd (not-suc-le-zero k);
    one_class = λ i j k. absurd (not-suc-le-zero k);
  }
  keyed_by_length (suc n) =
      let keyed = keyed_by_length n in
      record {
        one_key = class_has_one_key (by_key key (suc n)) (grouping_valid (same_key key) (suc n));
        one_class =
            one_class_more (class_taken (same_key key) n (by_key key n)) (by_key key n) keyed
            (λ j l e. rw (grouping_length (same_key key) n) at
            (takes_class_of_key (by_key key n) (grouping_grown (same_key key) n) keyed j l e));
      }

  -- numbers below n are of one class of their grouping exactly if they have one key
  pub grouping_keyed : (n : ℕ) → KeyedBy key n (class_in (by_key key n))
  grouping_keyed n = rw (grouping_length (same_key key) n) at (keyed_by_length n)

  -- ---- how many classes there are

  -- a key that an earlier number has counts no more
  known_key : (n m : ℕ) → So (has_key key n (key n)) → count_below m (has_key key (suc n)) ≡ count_below m
      (has_key key n)
  unfolding some_below
  known_key n m p = count_below_ext m (has_key key (suc n)) (has_key key n) same
    where
      same : (k : ℕ) → k < m → has_key key (suc n) k ≡ has_key key n k
      same k l = ⊎_elim (λ e. rw e (sym (rw (eqb-true (key n) k e) at p))) (λ e. rw e) (passes_or_fails (eqb (key n) k))

  -- a key that no earlier number has counts 1 more
  new_key : (n m : ℕ) → key n < m → has_key key n (key n) ≡ false
      → count_below m (has_key key (suc n)) ≡ count_below m (has_key key n) + 1
  unfolding some_below
  new_key n m l f =
      count_below_ext m (has_key key (suc n)) (λ k. has_key key n k || eqb k (key n)) same
      ∙ count_below_with m (has_key key n) l f
    where
      same : (k : ℕ) → k < m → has_key key (suc n) k ≡ (has_key key n k || eqb k (key n))
      same k o =
          ⊎_elim
          (λ e. rw e (sym (or_right (has_key key n k) (eqb k (key n)) (eq-eqb k (key n) (sym (eqb-true (key n) k e))))))
          (λ e. rw e (rw (ne_eqb k (key n) (λ s. eqb-false (key n) k e (sym s))) (sym (or-false (has_key key n k)))))
          (passes_or_fails (eqb (key n) k))

  -- the latest number shares its class with an earlier one exactly if it shares its key
  shared_class : (a : ℕ) (earlier : List ℕ) → Grown earlier → KeyedBy key (suc (length earlier))
      (class_in (a ∷ earlier))
      → a < used earlier → So (has_key key (length earlier) (key (length earlier)))
  shared_class a earlier g keyed l =
      let m = grown_member earlier g l in
      let same = class_in_earlier a earlier m.within ∙ m.classed ∙ sym (class_in_latest a earlier refl) in
      some_below_intro (length earlier) (λ i. eqb (key i) (key (length earlier))) m.within
      (eq-eqb (key m.number) (key (length earlier))
      (keyed.one_key m.number (length earlier) (le_step m.within) (lt-suc_self (length earlier)) same))

  shared_key : (a : ℕ) (earlier : List ℕ) → KeyedBy key (suc (length earlier)) (class_in (a ∷ earlier))
      → So (has_key key (length earlier) (key (length earlier))) → a < used earlier
  shared_key a earlier keyed p =
      let r = some_below_elim (length earlier) (λ i. eqb (key i) (key (length earlier))) p in
      let same = eqb-true (key r.place) (key (length earlier)) r.holds in
      let one = keyed.one_class r.place (length earlier) (le_step r.within) (lt-suc_self (length earlier))
      same in
      rw (sym (class_in_earlier a earlier r.within) ∙ one ∙ class_in_latest a earlier refl) at
      (class_below_used earlier r.within)

  -- a class opens with each new key, so there are as many classes as keys
  pub used_counts_keys : (m : ℕ) (placed : List ℕ) → Grown placed → KeyedBy key (length placed) (class_in placed)
      → ((i : ℕ) → i < length placed → key i < m) → used placed ≡ count_below m (has_key key (length placed))
  used_counts_keys m [] g keyed within =
      sym (count_below_none_intro m (has_key key 0) (λ k l. none_below_intro 0 (λ i. eqb (key i) k)
      (λ i o. absurd (not-suc-le-zero o))))
  used_counts_keys m (a ∷ earlier) g keyed within =
      let so_far = used_counts_keys m earlier g.1 (keyed_earlier a earlier keyed) (λ i l. within i (le_step l)) in
      ⊎_elim
      (λ p. omega (arith, known_key (length earlier) m p, shared_key a earlier keyed p))
      (λ f. omega (
        arith,
        g.0,
        new_key (length earlier) m (within (length earlier) (lt-suc_self (length earlier))) f,
        opens f,
      ))
      (passes_or_fails (has_key key (length earlier) (key (length earlier))))
    where
      opens : has_key key (length earlier) (key (length earlier)) ≡ false → used earlier ≤ a
      opens f = ⊎_elim (λ l. absurd (not_both (shared_class a earlier g.1 keyed l) f)) (λ h. h)
          (below_or_from a (used earlier))

  module _ (n m : ℕ) (within : (i : ℕ) → i < n → key i < m) where
    pub grouping_counts_keys : used (by_key key n) ≡ count_below m (has_key key n)
    grouping_counts_keys =
        rw (grouping_length (same_key key) n) at
        (used_counts_keys m (by_key key n) (grouping_grown (same_key key) n) (keyed_by_length n)
        (λ i l. within i (rw (grouping_length (same_key key) n) at l)))

    -- no more classes than there are numbers that can be keys
    pub grouping_used_le : used (by_key key n) ≤ m
    grouping_used_le = rw grouping_counts_keys (count_below_le m (has_key key n))

    -- as many classes as that, where each such number is a key
    pub grouping_used_all : ((k : ℕ) → k < m → So (has_key key n k)) → used (by_key key n) ≡ m
    grouping_used_all reached = grouping_counts_keys ∙ count_below_all_intro m (has_key key n) reached
