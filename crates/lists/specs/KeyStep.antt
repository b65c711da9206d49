-- What the next number takes in a grouping by key: the class of an earlier number of its key, and where there is
-- none, the next class. The first is read off the longer grouping, whose classes are exactly its keys. For the
-- second, every class in use has a member, and none has the number's key.
use Rattle.std.specs.Prelude.{ℕ, suc, ◌<◌, ◌≡◌, false, eqb}
use Rattle.std.proofs.Common.{sym, ◌∙◌, lt-suc_self, eqb-true, eq-eqb}
use Rattle.std.proofs.Math.Bool.{So}
use Rattle.std.proofs.Math.Nat.{le_step}
use Rattle.spec.specs.Cover.{used, joins}
use Rattle.bits.specs.Truth.{not_both, fails_unless}
use Rattle.bits.specs.Laws.Below.{some_below_intro}
use Rattle.bits.specs.Laws.Lowest.{lowest_below_none_intro}
use Rattle.lists.specs.Classing.{class_in}
use Rattle.lists.specs.PlacementLaws.{class_in_latest, class_in_earlier, joins_elim, grown_member}
use Rattle.lists.specs.GroupingLaws.{class_taken, grouping_length, grouping_grown}
use Rattle.lists.specs.KeyLaws.{same_key, has_key, by_key, grouping_keyed}

module _ (key : ℕ → ℕ) (n : ℕ) where
  -- the class that number n takes
  abbrev pub next_class : ℕ
  next_class = class_taken (same_key key) n (by_key key n)

  -- in the longer grouping the earlier numbers keep their classes, and number n has the one it takes
  pub keyed_next : class_in (by_key key (suc n)) n ≡ next_class
  keyed_next = class_in_latest next_class (by_key key n) (sym (grouping_length (same_key key) n))

  pub keyed_before : (j : ℕ) → j < n → class_in (by_key key (suc n)) j ≡ class_in (by_key key n) j
  keyed_before j l = class_in_earlier next_class (by_key key n) (rw (grouping_length (same_key key) n) l)

  pub next_class_known : (j : ℕ) → j < n → key n ≡ key j → next_class ≡ class_in (by_key key n) j
  next_class_known j l e =
      sym keyed_next ∙ (grouping_keyed key (suc n)).one_class n j (lt-suc_self n) (le_step l) e ∙ keyed_before j l

  pub next_class_new : has_key key n (key n) ≡ false → next_class ≡ used (by_key key n)
  next_class_new f =
      rw (lowest_below_none_intro (used (by_key key n)) (joins (same_key key) n (by_key key n))
      (λ c l. fails_unless (joins (same_key key) n (by_key key n) c) (takes_none c l)))
    where
      takes_none : (c : ℕ) → c < used (by_key key n) → So (joins (same_key key) n (by_key key n) c) → ⊥
      takes_none c l p =
          let m = grown_member (by_key key n) (grouping_grown (same_key key) n) l in
          let s = joins_elim (same_key key) n (by_key key n) c p m.within m.classed in
          let same = eqb-true (key n) (key m.number) s in
          not_both
          (some_below_intro n (λ i. eqb (key i) (key n)) (rw (grouping_length (same_key key) n) at m.within)
          (eq-eqb (key m.number) (key n) (sym same))) f
