-- Grouping by a test under which numbers of one key go together never has more classes than grouping by that key,
-- where the keys rise: of the numbers of a key that can join no earlier class one opens a class, and the others can
-- join it. So grouping by fit never has more classes than grouping by user.
use Prim.Native.Nat.{ℕ, zero, suc, ◌≤◌, ◌<◌}
use Rattle.std.proofs.Common.{le_refl, le_of_lt, lt-suc_self, arith, sym, ap, ◌∙◌, inl, inr, ⊎_elim, eqb-true, ne_eqb}
use Rattle.std.specs.Prelude.{◌≡◌, ◌⊎◌, ◌≢◌, Bool, false, eqb}
use Rattle.std.proofs.Math.Bool.{So}
use Rattle.std.proofs.lemmas.Bool.{eqb-false}
use Rattle.spec.specs.Vocabulary.{lowest_below}
use Rattle.spec.specs.Cover.{used, joins, grouping}
use Rattle.bits.specs.Truth.{passes_or_fails, not_both}
use Rattle.bits.specs.Laws.Below.{last_or_below, below_or_from, none_below_intro}
use Rattle.bits.specs.Laws.Lowest.{lowest_below_cases, lowest_below_intro, lowest_le}
use Rattle.lists.specs.Classing.{class_in}
use Rattle.lists.specs.PlacementLaws.{class_in_latest, class_in_earlier, class_below_used, joins_intro}
use Rattle.lists.specs.PlacementLaws.{earlier_uses_fewer, latest_below_used}
use Rattle.lists.specs.GroupingLaws.{class_taken, grouping_length, grouping_grown}
use Rattle.lists.specs.KeyLaws.{has_key, by_key}
use Rattle.lists.specs.KeyStep.{next_class, next_class_new}

module _ (together : ℕ → ℕ → Bool) (key : ℕ → ℕ) (n : ℕ)
    (one_key : (i j : ℕ) → j < i → i < n → key i ≡ key j → So (together i j))
    (rising : (i j : ℕ) → i < j → j < n → key i ≤ key j) where
  -- a class whose members all have the key of number d
  record OwnClass (d : ℕ) : Type 0 where
    class : ℕ
    within : class < used (grouping together (suc d))
    own : (i : ℕ) → i < suc d → class_in (grouping together (suc d)) i ≡ class → key i ≡ key d

  -- there are fewer classes than keys, or no more and one of them has only the latest key
  abbrev FewSoFar : ℕ → Type 0
  FewSoFar d =
      (used (grouping together (suc d)) < used (by_key key (suc d)))
      ⊎ ((used (grouping together (suc d)) ≤ used (by_key key (suc d))) × OwnClass d)

  -- the class that number d takes
  abbrev taken : ℕ → ℕ
  taken d = class_taken together d (grouping together d)

  latest : (d : ℕ) → class_in (grouping together (suc d)) d ≡ taken d
  latest d = class_in_latest (taken d) (grouping together d) (sym (grouping_length together d))

  before : (d i : ℕ) → i < d → class_in (grouping together (suc d)) i ≡ class_in (grouping together d) i
  before d i l = class_in_earlier (taken d) (grouping together d) (rw (grouping_length together d) l)

  -- where there were fewer classes than there are keys now
  with_room : (d : ℕ) → used (grouping together d) < used (by_key key (suc d)) → FewSoFar d
  with_room d l = ⊎_elim old new (below_or_from (taken d) (used (grouping together d)))
    where
      old : taken d < used (grouping together d) → FewSoFar d
      old k = inl (omega arith)

      fresh : used (grouping together d) ≤ taken d → (i : ℕ) → i < suc d → class_in (grouping together (suc d)) i ≡
          taken d → key i ≡ key d
      fresh k i m e =
          ⊎_elim (λ (s : i ≡ d). ap key s)
          (λ (o : i < d). absurd (omega (
            arith,
            before d i o,
            e,
            class_below_used (grouping together d) {i = i}
                (rw (grouping_length together d) o),
          )))
          (last_or_below m)

      new : used (grouping together d) ≤ taken d → FewSoFar d
      new k =
          inr (
            omega (arith, (grouping_grown together (suc d)).0),
            record { class = taken d; within = latest_below_used (taken d) (grouping together d); own = fresh k },
          )

  -- the next number has the key of the latest, and can join that key's own class
  joins_own : (d : ℕ) → suc d < n → key (suc d) ≡ key d → used (grouping together (suc d)) ≤ used (by_key key (suc d))
      → OwnClass d
      → FewSoFar (suc d)
  joins_own d l e few own-class =
      inr (
        omega (arith, lower, own-class.within, earlier_uses_fewer (next_class key (suc d)) (by_key key (suc d))),
        record {
          class = own-class.class;
          within = omega (arith, own-class.within, earlier_uses_fewer (taken (suc d)) (grouping together (suc d)));
          own = λ i k s. ⊎_elim (λ (o : i ≡ suc d). ap key o)
              (λ (o : i < suc d). own-class.own i o (sym (before (suc d) i o) ∙ s) ∙ sym e) (last_or_below k);
        },
      )
    where
      fits_all : So (joins together (suc d) (grouping together (suc d)) own-class.class)
      fits_all =
          joins_intro together (suc d) (grouping together (suc d)) own-class.class
          (λ i k s. let inside = rw (grouping_length together (suc d)) at k in one_key (suc d) i
          inside l (e ∙ sym (own-class.own i inside s)))

      lower : taken (suc d) ≤ own-class.class
      lower =
          ⊎_elim
          (λ w. rw (lowest_below_intro (used (grouping together (suc d)))
          (joins together (suc d) (grouping together (suc d))) w.1)
          (lowest_le w.1 fits_all))
          (λ none. absurd (not_both fits_all (none own-class.class own-class.within)))
          (lowest_below_cases (used (grouping together (suc d))) (joins together (suc d) (grouping together (suc d))))

  -- a key greater than the latest is new
  new_key : (d : ℕ) → suc d < n → key (suc d) ≢ key d → used (by_key key (suc d)) < used (by_key key (suc (suc d)))
  new_key d l apart =
      let none : has_key key (suc d) (key (suc d)) ≡ false =
      none_below_intro (suc d) (λ i. eqb (key i) (key (suc d))) (λ i k. ne_eqb (key i) (key (suc d))
      (λ e. differs i k e)) in
      omega (arith, next_class_new key (suc d) none, latest_below_used (next_class key (suc d)) (by_key key (suc d)))
    where
      differs : (i : ℕ) → i < suc d → key i ≡ key (suc d) → ⊥
      differs i k e =
          ⊎_elim (λ (s : i ≡ d). apart (sym e ∙ ap key s))
          (λ (o : i < d). apart (omega (arith, rising i d o (omega arith), rising d (suc d) (lt-suc_self d) l)))
          (last_or_below k)

  few_so_far : (d : ℕ) → d < n → FewSoFar d
  unfolding lowest_below
  few_so_far zero l = with_room zero (lt-suc_self 0)
  few_so_far (suc d) l = step (few_so_far d (omega arith)) (passes_or_fails (eqb (key (suc d)) (key d)))
    where
      step : FewSoFar d → So (eqb (key (suc d)) (key d)) ⊎ (eqb (key (suc d)) (key d) ≡ false) → FewSoFar (suc d)
      step (inl fewer) same = with_room (suc d)
          (omega (arith, earlier_uses_fewer (next_class key (suc d)) (by_key key (suc d))))
      step (inr (few, own)) (inl same) = joins_own d l (eqb-true (key (suc d)) (key d) same) few own
      step (inr (few, own)) (inr other) = with_room (suc d)
          (omega (arith, new_key d l (eqb-false (key (suc d)) (key d) other)))

  pub no_more_than_keys : (m : ℕ) → m ≤ n → used (grouping together m) ≤ used (by_key key m)
  no_more_than_keys zero l = le_refl 0
  no_more_than_keys (suc d) l = ⊎_elim (λ fewer. le_of_lt fewer) (λ few. few.0) (few_so_far d l)
