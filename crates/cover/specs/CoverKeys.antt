-- A grouping by key, as by permission, through a table: the table has the class of every key that an earlier number
-- has, and of no other. So a number takes the class of its key where an earlier number has that key, and else the
-- next one, as the grouping by key does.
use Rattle.std.specs.Prelude.{ℕ, suc, ◌+◌, ◌≤◌, ◌<◌, max, ◌≡◌, ◌≢◌, false, cond, List, eqb, length, get_or, set, replicate}
use Rattle.std.proofs.Common.{le_refl, lt-suc_self, not-suc-le-zero, add-one, arith, sym, ap, ◌∙◌, ⊎_elim, eqb-true, eq-eqb, ne_eqb, length-set, get_or-set_same, get_or-set_other}
use Rattle.std.proofs.Math.Nat.{le_step}
use Rattle.std.proofs.Math.Bool.{So}
use Rattle.std.proofs.lemmas.Bool.{eqb-false}
use Rattle.std.proofs.lemmas.List.{length-replicate, get_or-replicate}
use Rattle.spec.specs.Limits.{grant_limit}
use Rattle.bits.specs.Truth.{passes_or_fails, not_both, fails_unless}
use Rattle.bits.specs.Laws.Below.{last_or_below, some_below_intro, some_below_elim, some_below_more}
use Rattle.lists.specs.Classing.{class_in}
use Rattle.lists.specs.PlacementLaws.{class_below_used}
use Rattle.lists.specs.GroupingLaws.{grouping_length}
use Rattle.lists.specs.KeyLaws.{same_key, has_key, by_key, grouping_used_le}
use Rattle.lists.specs.KeyStep.{next_class, keyed_next, keyed_before, next_class_known, next_class_new}
use Rattle.cells.specs.Blank.{BlankFrom, zeros_blank, set_blank}
use Rattle.cover.specs.CoverPlaced.{Placed, none_placed, few_classes, one_placed}

-- the class of a key: the one that the table has, else the next one; `none` stands in the table where there is none
abbrev pub class_from : ℕ → List ℕ → ℕ → ℕ → ℕ
class_from none table count k = cond (eqb (get_or table k 0) none) count (get_or table k 0)

-- the first i numbers have their classes, and the table has the classes of their keys
pub record Keyed (key : ℕ → ℕ) (i width none : ℕ) (table classes : List ℕ) (count : ℕ) : Type 0 where
  pub room : length classes ≡ grant_limit
  pub wide : length table ≡ width
  pub placed : Placed (by_key key i) classes i count
  pub named : (j : ℕ) → j < i → get_or table (key j) 0 ≡ class_in (by_key key i) j
  pub unnamed : (k : ℕ) → k < width → has_key key i k ≡ false → get_or table k 0 ≡ none
  pub past : BlankFrom i classes

pub none_keyed : (key : ℕ → ℕ) (n width none : ℕ) → n ≡ grant_limit
    → Keyed key 0 width none (replicate width none) (replicate n 0) 0
none_keyed key n width none room =
    record {
      room = length-replicate n 0 ∙ room;
      wide = length-replicate width none;
      placed = none_placed (replicate n 0);
      named = λ j l. absurd (not-suc-le-zero l);
      unnamed = λ k l f. get_or-replicate width k none 0 l;
      past = zeros_blank 0 n;
    }

pub keyed_count_le : {key : ℕ → ℕ} {i width none : ℕ} {table classes : List ℕ} {count : ℕ}
    → Keyed key i width none table classes count → count ≤ i
keyed_count_le {key} {i} {classes} {count} so_far = few_classes (same_key key) classes i count so_far.placed

-- and no more than there can be keys
pub keyed_count_below : {key : ℕ → ℕ} {i width none : ℕ} {table classes : List ℕ} {count : ℕ}
    → Keyed key i width none table classes count → ((j : ℕ) → j < i → key j < width) → count ≤ width
keyed_count_below {key} {i} {width} so_far within = rw so_far.placed.in_use (grouping_used_le key i width within)

module _ {key : ℕ → ℕ} {i width none : ℕ} {table classes : List ℕ} {count : ℕ}
    (so_far : Keyed key i width none table classes count) (room : i < grant_limit) (fits : key i < width)
    (few : count ≤ none) where
  -- a key that has a class
  known_class : (j : ℕ) → j < i → key i ≡ key j → (get_or table (key i) 0 ≡ next_class key i)
      × (next_class key i < none)
  known_class j l e =
      let known = next_class_known key i j l e in
      let below = class_below_used (by_key key i) {i = j} (rw (grouping_length (same_key key) i) l) in
      (rw e (so_far.named j l) ∙ sym known, omega (arith, known, below, so_far.placed.in_use))

  -- the number takes the class that the grouping gives it
  pub class_from_is_next : class_from none table count (key i) ≡ next_class key i
  class_from_is_next = ⊎_elim known new (passes_or_fails (has_key key i (key i)))
    where
      known : So (has_key key i (key i)) → class_from none table count (key i) ≡ next_class key i
      known p =
          let r = some_below_elim i (λ j. eqb (key j) (key i)) p in
          let k = known_class r.place r.within (sym (eqb-true (key r.place) (key i) r.holds)) in
          rw (ne_eqb (get_or table (key i) 0) none (omega (arith, k.0, k.1))) k.0

      new : has_key key i (key i) ≡ false → class_from none table count (key i) ≡ next_class key i
      new f =
          rw (eq-eqb (get_or table (key i) 0) none (so_far.unnamed (key i) fits f)) (so_far.placed.in_use
          ∙ sym (next_class_new key i f))

  -- and the next number follows
  pub one_keyed : (c : ℕ) → c ≡ next_class key i → Keyed key (i + 1) width none (set table (key i) c) (set classes i c)
      (max (suc c) count)
  one_keyed c e = rw (add-one i)
      (record {
        room = length-set classes i c ∙ so_far.room;
        wide = length-set table (key i) c ∙ so_far.wide;
        placed = one_placed (same_key key) classes i count so_far.placed e (rw so_far.room room);
        named = λ j l. ⊎_elim (same j l) (other j l) (passes_or_fails (eqb (key j) (key i)));
        unnamed = λ k l f. get_or-set_other table (key i) k c 0 (unlike k f) ∙ so_far.unnamed k l (earlier_none k f);
        past = rw (add-one i) at (set_blank c so_far.past);
      })
    where
      same : (j : ℕ) → j < suc i → So (eqb (key j) (key i)) → get_or (set table (key i) c) (key j) 0 ≡ class_in
          (by_key key (suc i)) j
      same j l p =
          let k : key j ≡ key i = eqb-true (key j) (key i) p in
          rw k (get_or-set_same table (key i) c 0 (rw so_far.wide fits)) ∙ e
          ∙ ⊎_elim (λ (q : j ≡ i). rw q (sym (keyed_next key i)))
          (λ (q : j < i). next_class_known key i j q (sym k) ∙ sym (keyed_before key i j q)) (last_or_below l)

      other : (j : ℕ) → j < suc i → eqb (key j) (key i) ≡ false → get_or (set table (key i) c) (key j) 0 ≡ class_in
          (by_key key (suc i)) j
      other j l p =
          let apart : key j ≢ key i = eqb-false (key j) (key i) p in
          get_or-set_other table (key i) (key j) c 0 apart
          ∙ ⊎_elim (λ (q : j ≡ i). absurd (apart (ap key q)))
          (λ (q : j < i). so_far.named j q ∙ sym (keyed_before key i j q)) (last_or_below l)

      unlike : (k : ℕ) → has_key key (suc i) k ≡ false → k ≢ key i
      unlike k f q = not_both (some_below_intro (suc i) (λ j. eqb (key j) k) (lt-suc_self i)
          (eq-eqb (key i) k (sym q))) f

      earlier_none : (k : ℕ) → has_key key (suc i) k ≡ false → has_key key i k ≡ false
      earlier_none k f =
          fails_unless (has_key key i k) (λ p. not_both (some_below_more i (suc i) (λ j. eqb (key j) k)
          (le_step (le_refl i)) p) f)
