-- The visit of one cell: a grant that stays leaves the work as it is, and one that is removed, as single or tied,
-- leaves what the definition's visit leaves.
use Rattle.std.specs.Prelude.{ℕ, ◌≤◌, ◌<◌, ◌≡◌, refl, not, List, [], ◌∷◌, eqb}
use Rattle.std.proofs.Common.{mul-le-mul_right, lt_of_lt_of_le, arith, sym, ap, ◌∙◌, eq-eqb, ne_eqb}
use Rattle.std.proofs.Math.Bool.{So, and-true}
use mathlib.Core.List.Memᴰ
use Rattle.spec.specs.Limits.{user_limit}
use Rattle.spec.specs.Sheet.{Sheet}
use Rattle.spec.specs.Fit.{without}
use Rattle.spec.specs.Reduction.{Reduction, carry_out, visit}
use Rattle.bits.specs.Bit.{word_bits}
use Rattle.bits.specs.Truth.{and_left}
use Rattle.bits.specs.Laws.Count.{count_below_pos}
use Rattle.cell_rows.specs.Rows.{row_words}
use Rattle.cells.specs.CellSets.{cell_grants}
use Rattle.cell_rows.specs.CellPlaces.{cell_limit, grant_of, marked, Shown, Part, cells_of}
use Rattle.verdict.specs.Log.{removal_of, log_of}
use Rattle.verdict.specs.ReductionVerdict.{GrantJudged}
use Rattle.verdict.specs.ReductionWork.{Work, state_of, WorkReady, Visited, Removable, Removed}
use Rattle.verdict.specs.Laws.ReductionWork.{part_all, part_of_part}
use Rattle.verdict.specs.Laws.ReductionRemove.{without_cell, log_grown, logged_grown, one_fewer}
use Rattle.verdict.specs.declared.judgement.Verdict.TheVariants.{Stays, Single, Tied}
use Rattle.numbers.specs.declared.numbers.CellNo.{CellNo}

-- the cells of these users are cells
pub cells_within : {users : ℕ} → users ≤ user_limit → cells_of users ≤ cell_limit
cells_within {users} h = mul-le-mul_right word_bits (mul-le-mul_right row_words h)

-- a cell that remains can be removed: the log has room for it
pub removable : {rows : List ℕ} {users it other : ℕ} {work : Work} → WorkReady rows users work → it < cells_of users
    → So (marked work.left it)
    → other < cells_of users → Removable it other work
removable {it} {work} ready inside set below =
    record {
      set = set;
      it_cell = at_it;
      other_cell = lt_of_lt_of_le below (cells_within ready.shows.few_users);
      room = omega (arith, ready.room, count_below_pos cell_limit (marked work.left) at_it set);
      logged = ready.logged;
    }
  where
    at_it : it < cell_limit
    at_it = lt_of_lt_of_le inside (cells_within ready.shows.few_users)

-- the state with the grant of a cell removed
abbrev without_it : Sheet → Work → ℕ → ℕ → Reduction
without_it sheet before it other =
    record {
      remaining = without (grant_of it) (cell_grants sheet before.left);
      removed = removal_of it other ∷ log_of before.removed before.partner before.count;
    }

module _ {rows : List ℕ} {users it : ℕ} {before : Work} (ready : WorkReady rows users before) where
  pub visit_stays : GrantJudged rows before.left users it Stays → Visited rows users (it ∷ []) before before
  visit_stays judged =
      record {
        part = part_all before.left;
        kept = λ n out. refl;
        total = refl;
        logged = ready.logged;
        state = λ sheet shown. ap (λ v. carry_out v (grant_of it) (state_of sheet before)) (judged.right sheet shown);
      }

  module _ (inside : it < cells_of users) (set : So (marked before.left it)) {after : Work} where
    part_less : {other : ℕ} → Removed it other before after → Part after.left before.left
    part_less removed = record {
      held = λ n p. and_left (marked before.left n) (not (eqb n it))
          (sym (removed.left n) ∙ p);
    }

    removed_visited : {other : ℕ} → Removed it other before after → other < cell_limit
        → ((sheet : Sheet) → Shown rows users sheet → without_it sheet before it other ≡ visit sheet (grant_of it)
        (state_of sheet before))
        → Visited rows users (it ∷ []) before after
    removed_visited {other} removed below right =
        record {
          part = part_less removed;
          kept = λ n out. removed.left n ∙ rw (ne_eqb n it (λ e. out (Memᴰ.head e)))
              (and-true (marked before.left n));
          total = omega (arith, removed.one_more, one_fewer removed at_it set);
          logged = logged_grown removed at_it below ready.logged;
          state = λ sheet shown.
              (λ i. record {
                remaining = without_cell shown it ready.part (part_of_part (part_less removed) ready.part)
                    removed.left i;
                removed = log_grown removed i;
              }) ∙ right sheet shown;
        }
      where
        at_it : it < cell_limit
        at_it = lt_of_lt_of_le inside (cells_within ready.shows.few_users)

    pub visit_single : GrantJudged rows before.left users it Single → Removed it it before after
        → Visited rows users (it ∷ []) before after
    visit_single judged removed =
        removed_visited removed (lt_of_lt_of_le inside (cells_within ready.shows.few_users))
        (λ sheet shown. rw (eq-eqb it it refl) (ap (λ v. carry_out v (grant_of it) (state_of sheet before))
        (judged.right sheet shown)))

    pub visit_tied : {other : CellNo} → GrantJudged rows before.left users it (Tied other) → Removed it other.0
        before after
        → Visited rows users (it ∷ []) before after
    visit_tied {other} judged removed =
        removed_visited removed (lt_of_lt_of_le judged.named.0 (cells_within ready.shows.few_users))
        (λ sheet shown. rw (ne_eqb it other.0 judged.named.1)
        (ap (λ v. carry_out v (grant_of it) (state_of sheet before)) (judged.right sheet shown)))
