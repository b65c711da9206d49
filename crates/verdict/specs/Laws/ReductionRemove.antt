-- One removal. The word of a cell loses one bit, so the set loses that cell and its list that grant; the log has one
-- entry more in front. So removing a judged cell is the definition's visit of its grant.
use Rattle.std.specs.Prelude.{ℕ, zero, suc, ◌+◌, ◌/◌, ◌%◌, ◌*◌, ◌≤◌, ◌<◌, ◌≡◌, refl, ◌≢◌, false, not, ◌&&◌, List, ◌∷◌, map, eqb, length, get_or, set}
use Rattle.std.proofs.Common.{le_refl, add-one, arith, sym, ap, ◌∙◌, ⊎_elim, eq-eqb, ne_eqb, eqb-true, get_or-set_same, get_or-set_other}
use Rattle.std.proofs.Math.Nat.{le_step}
use Rattle.std.proofs.Math.Bool.{So, and-true}
use Rattle.std.proofs.lemmas.Bool.{eqb-false}
use Rattle.std.proofs.Math.ListN.{get_or-eq_default}
use Rattle.spec.specs.Sheet.{Sheet, same_grant}
use Rattle.spec.specs.Fit.{without}
use Rattle.bits.specs.Bit.{bit, word_bits}
use Rattle.bits.specs.Laws.Bit.{bit_of_zero}
use Rattle.bits.specs.Truth.{passes_or_fails, not_both, same_truth}
use Rattle.bits.specs.Laws.Count.{count_below_ext}
use Rattle.bits.specs.Laws.CountJoin.{count_below_without}
use Rattle.bits.specs.Laws.Below.{below_or_from, last_or_below}
use Rattle.lists.specs.AppendLaws.{filter_map}
use Rattle.lists.specs.PassingBelow.{passing_below, passing_filter, passing_ext}
use Rattle.cell_rows.specs.Rows.{row_bits}
use Rattle.cells.specs.CellSets.{cell_grants}
use Rattle.cell_rows.specs.CellPlaces.{cell_limit, grant_of, marked, Shown, Part}
use Rattle.cells.specs.Laws.CellList.{cell_grants_by_cell}
use Rattle.verdict.specs.Laws.Near.{same_cell}
use Rattle.verdict.specs.Log.{removal_of, log_of}
use Rattle.verdict.specs.ReductionWork.{Work, remaining_cells, Logged, Removed}

-- ---- a bit of a word

-- two cells are one where their positions are, in one word
same_position : (m n : ℕ) → m / word_bits ≡ n / word_bits → eqb (m % word_bits) (n % word_bits) ≡ eqb m n
same_position m n e =
    same_truth (eqb (m % word_bits) (n % word_bits)) (eqb m n)
    (λ p. let q = eqb-true (m % word_bits) (n % word_bits) p in eq-eqb m n (omega arith))
    (λ p. let q = eqb-true m n p in eq-eqb (m % word_bits) (n % word_bits) (omega arith))

-- a cell that is set lies in the words
marked_within : (left : List ℕ) (it : ℕ) → So (marked left it) → it / word_bits < length left
marked_within left it p =
    ⊎_elim (λ l. l) (λ (l : length left ≤ it / word_bits). absurd
    (not_both p (rw (get_or-eq_default left 0 l) (bit_of_zero (it % word_bits)))))
    (below_or_from (it / word_bits) (length left))

pub bit_cleared : (left : List ℕ) (it word : ℕ) → So (marked left it)
    → ((q : ℕ) → bit word q ≡ (bit (get_or left (it / word_bits) 0) q && not (eqb q (it % word_bits))))
    → (n : ℕ) → marked (set left (it / word_bits) word) n ≡ (marked left n && not (eqb n it))
bit_cleared left it word set_at says n =
    ⊎_elim (λ e. here (eqb-true (n / word_bits) (it / word_bits) e))
    (λ e. elsewhere (eqb-false (n / word_bits) (it / word_bits) e))
    (passes_or_fails (eqb (n / word_bits) (it / word_bits)))
  where
    here : n / word_bits ≡ it / word_bits → marked (set left (it / word_bits) word) n ≡ (marked left n
        && not (eqb n it))
    here e =
        rw (
          e,
          get_or-set_same left (it / word_bits) word 0 (marked_within left it set_at),
          says (n % word_bits),
          same_position n it e,
        )

    elsewhere : n / word_bits ≢ it / word_bits → marked (set left (it / word_bits) word) n ≡ (marked left n
        && not (eqb n it))
    elsewhere e =
        let other : eqb n it ≡ false = ne_eqb n it (λ same. e (ap (λ k. k / word_bits) same)) in
        rw (get_or-set_other left (it / word_bits) (n / word_bits) word 0 e, other) (sym (and-true (marked left n)))

-- ---- the list without the grant

pub without_cell : {rows : List ℕ} {users : ℕ} {sheet : Sheet} → Shown rows users sheet
    → {left less : List ℕ} (it : ℕ) → Part left rows → Part less rows
    → ((n : ℕ) → marked less n ≡ (marked left n && not (eqb n it)))
    → cell_grants sheet less ≡ without (grant_of it) (cell_grants sheet left)
without_cell {users} {sheet} shown {left} {less} it part part_less says =
    cell_grants_by_cell shown part_less
    ∙ ap (map grant_of) (passing_ext (users * row_bits) (marked less) (λ n. marked left n
    && not (same_grant (grant_of it) (grant_of n)))
    (λ n l. says n ∙ rw (same_cell it n)) ∙ sym (passing_filter (users * row_bits) (marked left)
    (λ n. not (same_grant (grant_of it) (grant_of n)))))
    ∙ sym (filter_map (λ h. not (same_grant (grant_of it) h)) grant_of (passing_below (users * row_bits) (marked left)))
    ∙ ap (without (grant_of it)) (sym (cell_grants_by_cell shown part))

-- ---- the log with one entry more

log_kept : (before after : Work) (n : ℕ) → ((i : ℕ) → i < n → get_or after.removed i 0 ≡ get_or before.removed i 0)
    → ((i : ℕ) → i < n → get_or after.partner i 0 ≡ get_or before.partner i 0)
    → log_of after.removed after.partner n ≡ log_of before.removed before.partner n
log_kept before after zero h k = refl
log_kept before after (suc n) h k =
    rw (
      h n (le_refl (suc n)),
      k n (le_refl (suc n)),
      log_kept before after n (λ i l. h i (le_step l))
          (λ i l. k i (le_step l)),
    )

pub log_grown : {it other : ℕ} {before after : Work} → Removed it other before after
    → log_of after.removed after.partner after.count ≡ removal_of it other ∷ log_of before.removed
    before.partner before.count
log_grown {it} {other} {before} {after} r =
    rw (
      r.one_more,
      add-one before.count,
      r.removed_last,
      r.partner_last,
      log_kept before after before.count (λ i l. r.removed_kept i (earlier i l))
          (λ i l. r.partner_kept i (earlier i l)),
    )
  where
    earlier : (i : ℕ) → i < before.count → i ≢ before.count
    earlier i l = omega arith

pub logged_grown : {it other : ℕ} {before after : Work} → Removed it other before after → it < cell_limit
    → other < cell_limit → Logged before → Logged after
logged_grown {it} {other} {before} {after} r l m logged =
    record {
      removed_length = r.removed_length ∙ logged.removed_length;
      partner_length = r.partner_length ∙ logged.partner_length;
      removed_cell = λ i k.
          ⊎_elim (λ (e : i ≡ before.count). rw (ap (λ j. get_or after.removed j 0) e ∙ r.removed_last) l)
          (λ j. rw (r.removed_kept i (omega arith)) (logged.removed_cell i j)) (last_or_below (within i k));
      partner_cell = λ i k.
          ⊎_elim (λ (e : i ≡ before.count). rw (ap (λ j. get_or after.partner j 0) e ∙ r.partner_last) m)
          (λ j. rw (r.partner_kept i (omega arith)) (logged.partner_cell i j)) (last_or_below (within i k));
      removed_blank = record {
        blank = λ i k. r.removed_kept i (past i k) ∙ logged.removed_blank.blank i
            (no_earlier i k);
      };
      partner_blank = record {
        blank = λ i k. r.partner_kept i (past i k) ∙ logged.partner_blank.blank i
            (no_earlier i k);
      };
    }
  where
    past : (i : ℕ) → after.count ≤ i → i ≢ before.count
    past i k = omega (arith, r.one_more)

    no_earlier : (i : ℕ) → after.count ≤ i → before.count ≤ i
    no_earlier i k = omega (arith, r.one_more)

    within : (i : ℕ) → i < after.count → i < suc before.count
    within i k = omega (arith, r.one_more)

-- ---- what remains is one fewer

pub one_fewer : {it other : ℕ} {before after : Work} → Removed it other before after → it < cell_limit
    → So (marked before.left it)
    → remaining_cells before.left ≡ remaining_cells after.left + 1
one_fewer {it} {other} {before} {after} r l p =
    rw (count_below_ext cell_limit (marked after.left) (λ n. marked before.left n && not (eqb n it))
    (λ n k. r.left n))
    (count_below_without cell_limit (marked before.left) l p)
