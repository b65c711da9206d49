-- What the members of each class ask and lack, as a row of bits for each class: the permissions that they have, and
-- those that the user of one of them lacks. A grant fits all members of a class exactly if its user holds all that
-- they ask and none of them lacks its permission.
use Rattle.std.specs.Prelude.{ℕ, suc, ◌+◌, ◌*◌, ◌/◌, ◌%◌, ◌<◌, ◌≡◌, refl, Bool, true, not, ◌&&◌, ◌||◌, List, length, get_or, set, replicate}
use Rattle.std.proofs.Common.{mod-lt, add-one, arith, sym, ◌∙◌, ⊎_elim, eqb-true, eq-eqb, get_or-set_same, get_or-set_other}
use Rattle.std.proofs.Math.Bool.{So, or_comm, and-true}
use Rattle.std.proofs.Math.Dec.{eqb}
use Rattle.std.proofs.Math.ListN.{length-replicate}
use Rattle.std.proofs.lemmas.List.{get_or-replicate}
use Rattle.spec.specs.Vocabulary.{every_below}
use Rattle.spec.specs.Cover.{joins}
use Rattle.bits.specs.Truth.{passes_or_fails, not_both, fails_unless, same_truth, implies, implies_intro}
use Rattle.bits.specs.Truth.{implies_elim, not_passes, not_fails, and_intro, and_left, and_right}
use Rattle.bits.specs.Counting.{some_below, Found}
use Rattle.bits.specs.Laws.Below.{some_below_intro, some_below_elim, some_below_ext, every_below_intro}
use Rattle.bits.specs.Laws.Below.{every_below_elim}
use Rattle.bits.specs.Bit.{word_bits}
use Rattle.bits.specs.Laws.Bit.{bit_of_zero}
use Rattle.lists.specs.PlacementLaws.{joins_intro, joins_elim}
use Rattle.lists.specs.LatestFirst.{latest_first, latest_first_length, latest_first_class}
use Rattle.cell_rows.specs.Rows.{row_words, row_bits, cell}
use Rattle.cell_rows.specs.CellAdded.{CellAdded, word_of}
use Rattle.cells.specs.Laws.CellAdded.{word_below}
use Rattle.cell_rows.specs.CellPlaces.{grant_of, fit_in}
use Rattle.cell_rows.specs.Laws.Width.{row_bits_pos}
use Rattle.cover.specs.CoverRelation.{fit_at_cells}

-- a row of words for each class: as many classes as permissions
abbrev pub class_words : ℕ
class_words = row_bits * row_words

-- the user of the grant at a cell holds all that the members of a class ask, and none of them lacks its permission
abbrev pub joinable : List ℕ → List ℕ → List ℕ → ℕ → ℕ → Bool
joinable rows asked lacked it c =
    not (cell lacked c (it % row_bits)) && every_below row_bits
    (λ q. implies (cell asked c q) (cell rows (it / row_bits) q))

-- ---- what the members of a class have

-- the bit q of class c is set exactly if one of the first d numbers is in class c and has q
pub record Gathered (has : ℕ → ℕ → Bool) (classes : List ℕ) (d : ℕ) (words : List ℕ) : Type 0 where
  pub size : length words ≡ class_words
  pub gathers : (c q : ℕ) → c < row_bits → q < row_bits → cell words c q ≡ some_below d (λ i. eqb c (get_or classes i 0)
      && has i q)

module _ (has : ℕ → ℕ → Bool) (classes : List ℕ) where
  -- at first the classes have nothing
  pub none_gathered : (n : ℕ) → n ≡ class_words → Gathered has classes 0 (replicate n 0)
  unfolding some_below
  none_gathered n e = record {
    size = length-replicate n 0 ∙ e;
    gathers = λ c q l k. rw (get_or-replicate {A = ℕ} n (word_of c q) 0 0 (rw e (word_below row_bits c q l k)))
        (bit_of_zero (q % word_bits));
  }

  -- what the next number has is added to its class
  pub one_gathered : (d c : ℕ) (words after : List ℕ) → Gathered has classes d words → d < length classes
      → length after ≡ length words
      → ((v q : ℕ) → q < row_bits → cell after v q ≡ (cell words v q || (eqb v c && has d q)))
      → Gathered has (set classes d c) (suc d) after
  unfolding some_below
  one_gathered d c words after so_far room size added = record {
    size = size ∙ so_far.size;
    gathers = λ v q l k.
        rw (get_or-set_same classes d c 0 room, earlier v q, added v q k, so_far.gathers v q l k)
        (or_comm (some_below d (λ i. eqb v (get_or classes i 0) && has i q)) (eqb v c && has d q));
  }
    where
      earlier : (v q : ℕ)
          → some_below d (λ i. eqb v (get_or (set classes d c) i 0) && has i q) ≡ some_below d
          (λ i. eqb v (get_or classes i 0) && has i q)
      earlier v q =
          some_below_ext d (λ i. eqb v (get_or (set classes d c) i 0) && has i q) (λ i. eqb v (get_or classes i 0)
          && has i q)
          (λ i l. rw (get_or-set_other classes d i c 0 (omega arith)))

-- ---- what they ask and lack

-- number i has permission q
abbrev pub asks : List ℕ → ℕ → ℕ → Bool
asks cells i q = eqb q (get_or cells i 0 % row_bits)

-- the user of number i does not hold q
abbrev pub lacks : List ℕ → List ℕ → ℕ → ℕ → Bool
lacks rows cells i q = not (cell rows (get_or cells i 0 / row_bits) q)

-- the words say what the first d numbers ask and lack, class by class
pub record Members (rows cells classes : List ℕ) (d : ℕ) (asked lacked : List ℕ) : Type 0 where
  pub asking : Gathered (asks cells) classes d asked
  pub lacking : Gathered (lacks rows cells) classes d lacked

pub no_members : (rows cells classes : List ℕ) (n : ℕ) → n ≡ class_words → Members rows cells classes 0
    (replicate n 0) (replicate n 0)
no_members rows cells classes n e = record {
  asking = none_gathered (asks cells) classes n e;
  lacking = none_gathered (lacks rows cells) classes n e;
}

module _ {rows cells classes : List ℕ} {d : ℕ} {asked lacked : List ℕ} (m : Members rows cells classes d asked lacked)
  where
    -- the next number joins its class
    pub one_member : (c : ℕ) (asked' lacked' : List ℕ) → d < length classes
        → CellAdded asked asked' c (get_or cells d 0 % row_bits) true
        → length lacked' ≡ length lacked
        → ((v q : ℕ) → q < row_bits → cell lacked' v q ≡ (cell lacked v q || (eqb v c && lacks rows cells d q)))
        → Members rows cells (set classes d c) (d + 1) asked' lacked'
    one_member c asked' lacked' room a size l = rw (add-one d) (record {
      asking =
          one_gathered (asks cells) classes d c asked asked' m.asking room a.size
          (λ v q k. rw (and-true (asks cells d q)) at (a.shows v q k));
      lacking = one_gathered (lacks rows cells) classes d c lacked lacked' m.lacking room size l;
    })

    -- ---- who can join a class

    module _ (c : ℕ) (below : c < row_bits) where
      -- what a member asks or lacks is in the words
      asked_there : (i q : ℕ) → i < d → q < row_bits → So (eqb c (get_or classes i 0)) → So (asks cells i q)
          → So (cell asked c q)
      asked_there i q l k s t =
          m.asking.gathers c q below k
          ∙ some_below_intro d (λ j. eqb c (get_or classes j 0) && asks cells j q) l
          (and_intro (eqb c (get_or classes i 0))
          (asks cells i q) s t)

      lacked_there : (i q : ℕ) → i < d → q < row_bits → So (eqb c (get_or classes i 0)) → So (lacks rows cells i q)
          → So (cell lacked c q)
      lacked_there i q l k s t =
          m.lacking.gathers c q below k
          ∙ some_below_intro d (λ j. eqb c (get_or classes j 0) && lacks rows cells j q) l
          (and_intro (eqb c (get_or classes i 0)) (lacks rows cells i q) s t)

      -- and only that
      asked_by : (q : ℕ) → q < row_bits → So (cell asked c q) → Found d (λ i. eqb c (get_or classes i 0)
          && asks cells i q)
      asked_by q k t = some_below_elim d (λ i. eqb c (get_or classes i 0) && asks cells i q)
          (sym (m.asking.gathers c q below k) ∙ t)

      lacked_by : (q : ℕ) → q < row_bits → So (cell lacked c q) → Found d (λ i. eqb c (get_or classes i 0)
          && lacks rows cells i q)
      lacked_by q k t = some_below_elim d (λ i. eqb c (get_or classes i 0) && lacks rows cells i q)
          (sym (m.lacking.gathers c q below k) ∙ t)

      module _ (it : ℕ) where
        -- the grant at the cell fits number i
        abbrev Fits : ℕ → Type 0
        Fits i = So (fit_in rows (grant_of it) (grant_of (get_or cells i 0)))

        -- its user holds q where the class asks it
        abbrev held : ℕ → Bool
        held q = implies (cell asked c q) (cell rows (it / row_bits) q)

        joinable_fits : So (joinable rows asked lacked it c) → (i : ℕ) → i < d
            → So (eqb c (get_or classes i 0)) → Fits i
        joinable_fits e i l s =
            let p = get_or cells i 0 % row_bits in
            let k : p < row_bits = mod-lt (get_or cells i 0) row_bits_pos in
            let there = cell rows (get_or cells i 0 / row_bits) (it % row_bits) in
            let none = not_fails (cell lacked c (it % row_bits)) (and_left (not (cell lacked c (it % row_bits)))
            (every_below row_bits held) e) in
            let all = and_right (not (cell lacked c (it % row_bits))) (every_below row_bits held) e in
            and_intro (cell rows (it / row_bits) p) there
            (implies_elim (cell asked c p) (cell rows (it / row_bits) p) (every_below_elim row_bits held all k)
            (asked_there i p l k s (eq-eqb p p refl)))
            (⊎_elim (λ h. h) (λ f. absurd (not_both (lacked_there i (it % row_bits) l (mod-lt it row_bits_pos) s
            (not_passes there f)) none))
            (passes_or_fails there))

        module _ (fitting : (i : ℕ) → i < d → So (eqb c (get_or classes i 0)) → Fits i) where
          none_lacks : So (cell lacked c (it % row_bits)) → ⊥
          none_lacks t =
              let r = lacked_by (it % row_bits) (mod-lt it row_bits_pos) t in
              let i = r.place in
              let s = and_left (eqb c (get_or classes i 0)) (lacks rows cells i (it % row_bits)) r.holds in
              let f = and_right (eqb c (get_or classes i 0)) (lacks rows cells i (it % row_bits)) r.holds in
              let there = cell rows (get_or cells i 0 / row_bits) (it % row_bits) in
              not_both (and_right (cell rows (it / row_bits) (get_or cells i 0 % row_bits)) there
              (fitting i r.within s)) (not_fails there f)

          all_held : (q : ℕ) → q < row_bits → So (cell asked c q) → So (cell rows (it / row_bits) q)
          all_held q k t =
              let r = asked_by q k t in
              let i = r.place in
              let s = and_left (eqb c (get_or classes i 0)) (asks cells i q) r.holds in
              let e = eqb-true q (get_or cells i 0 % row_bits) (and_right (eqb c (get_or classes i 0)) (asks cells i q)
              r.holds) in
              rw e
              (and_left (cell rows (it / row_bits) (get_or cells i 0 % row_bits))
              (cell rows (get_or cells i 0 / row_bits)
              (it % row_bits))
              (fitting i r.within s))

          fits_joinable : So (joinable rows asked lacked it c)
          fits_joinable =
              and_intro (not (cell lacked c (it % row_bits))) (every_below row_bits held)
              (not_passes (cell lacked c (it % row_bits)) (fails_unless (cell lacked c (it % row_bits)) none_lacks))
              (every_below_intro row_bits held (λ q k. implies_intro (cell asked c q) (cell rows (it / row_bits) q)
              (all_held q k)))

      -- the next number fits all members of the class exactly if the words say so
      pub joinable_is_joins : joinable rows asked lacked (get_or cells d 0) c ≡ joins (fit_at_cells rows cells) d
          (latest_first classes d) c
      joinable_is_joins =
          same_truth (joinable rows asked lacked (get_or cells d 0) c) (joins (fit_at_cells rows cells) d
          (latest_first classes d) c)
          (λ e. joins_intro (fit_at_cells rows cells) d (latest_first classes d) c (λ i k s.
          let l : i < d = rw (latest_first_length classes d) at k in
          joinable_fits (get_or cells d 0) e i l (eq-eqb c (get_or classes i 0)
          (sym s ∙ latest_first_class classes d l))))
          (λ e. fits_joinable (get_or cells d 0) (λ i l s.
          joins_elim (fit_at_cells rows cells) d (latest_first classes d) c e (rw (latest_first_length classes d) l)
          (latest_first_class classes d l ∙ sym (eqb-true c (get_or classes i 0) s))))
