-- The counts of the grants open to choice, exact at the cells of the open grants. When grants are closed
-- to choice, they are taken off user by user.
use Rattle.std.specs.Prelude.{ℕ, ◌+◌, ◌*◌, ◌/◌, ◌≤◌, ◌<◌, ◌≡◌, refl, Bool, true, false, not, ◌&&◌, List, ltb, length, get_or}
use Rattle.std.proofs.Common.{arith, sym, ap, ap₂, ◌∙◌, lt-ltb, ltb-true}
use Rattle.std.proofs.Math.Bool.{So, and_comm, and-false}
use Rattle.spec.specs.Vocabulary.{filter}
use Rattle.spec.specs.Limits.{user_limit}
use Rattle.spec.specs.Sheet.{Sheet}
use Rattle.spec.specs.Fit.{fits}
use Rattle.bits.specs.Truth.{not_both, and_intro, and_left, and_right}
use Rattle.bits.specs.Counting.{count_below, sum_below}
use Rattle.bits.specs.Laws.Block.{count_below_blocks}
use Rattle.bits.specs.Laws.Count.{count_below_ext}
use Rattle.bits.specs.Laws.CountJoin.{count_below_split}
use Rattle.bits.specs.Laws.Step.{sum_below_step}
use Rattle.bits.specs.Laws.Sum.{sum_below_more}
use Rattle.cell_rows.specs.Rows.{row_bits, cell}
use Rattle.cell_rows.specs.Laws.Width.{rows_cells}
use Rattle.cells.specs.CellSets.{cell_grants}
use Rattle.cell_rows.specs.CellPlaces.{cell_limit, grant_of, marked, fit_in, near, Shown, Part}
use Rattle.fit.specs.Laws.FitWord.{near_count}
use Rattle.cells.specs.MadeCells.{MadeCells}
use Rattle.cells.specs.Laws.CellPlace.{user_below}
use Rattle.fit.specs.Columns.{near_in_row}
use Rattle.witness.specs.CountChange.{fit_count, TakenOff, Enough, of_users_below}
use Rattle.witness.specs.Laws.Row.{cell_by_user}
use Rattle.witness.specs.Counts.{near_below, Counted}

-- a count is that of the grants of left that fit
pub counted_grants : {rows : List ℕ} {users : ℕ} {sheet : Sheet} → users ≤ user_limit → Shown rows users sheet
    → {left : List ℕ} → Part left rows
    → {counts : List ℕ} → Counted rows left users counts → (n : ℕ) → n < users * row_bits → So (marked left n)
    → get_or counts n 0 ≡ length (filter (fits sheet (grant_of n)) (cell_grants sheet left))
counted_grants {rows} {users} few shown {left} part counted n inside p =
    counted.exact n (omega (arith, user_below n users inside)) p
    ∙ sym (count_below_blocks users row_bits (near rows left n))
    ∙ ap (λ k. count_below k (near rows left n)) (rows_cells users)
    ∙ near_count shown part n

-- ---- when grants are closed

-- the closed grants of the first u users are taken off the counts of the rest, and all others stay
pub record Recounting (rows left rest : List ℕ) (users : ℕ) (before : List ℕ) (u : ℕ) (counts : List ℕ) : Type 0 where
  pub sized : length counts ≡ cell_limit
  pub so_far :
      (n : ℕ) → n / row_bits < user_limit → So (marked rest n)
      → get_or counts n 0 + near_below rows left n u ≡ near_below rows left n users + near_below rows rest n u
  pub others : (n : ℕ) → marked rest n ≡ false → get_or counts n 0 ≡ get_or before n 0

module _ (rows left rest : List ℕ) (users : ℕ) (within : (n : ℕ) → So (marked rest n) → So (marked left n)) where
  pub recount_starts : (counts : List ℕ) → Counted rows left users counts
      → Recounting rows left rest users counts 0 counts
  unfolding sum_below
  recount_starts counts counted = record {
    sized = counted.sized;
    so_far = λ n l p. omega (arith, counted.exact n l (within n p));
    others = λ n f. refl;
  }

  -- the cells of a user that are near a grant are those of the rest and the closed ones
  near_split : (n u : ℕ) (closed : List ℕ)
      → MadeCells (λ p. cell left u p && not (cell rest u p)) row_bits closed
      → near_in_row rows left n u ≡ near_in_row rows rest n u + fit_count rows u closed n
  near_split n u closed made =
      count_below_split row_bits (λ p. near rows left n (u * row_bits + p)) (λ p. marked rest (u * row_bits + p))
      ∙ ap₂ (λ a b. a + b)
      (count_below_ext row_bits (λ p. near rows left n (u * row_bits + p) && marked rest (u * row_bits + p))
      (λ p. near rows rest n (u * row_bits + p)) (λ p l.
      kept (marked left (u * row_bits + p)) (fitting p) (marked rest (u * row_bits + p)) (within (u * row_bits + p))))
      (count_below_ext row_bits (λ p. near rows left n (u * row_bits + p) && not (marked rest (u * row_bits + p)))
      (λ p. marked closed p && fitting p) (λ p l.
      gone (marked left (u * row_bits + p)) (fitting p) (marked rest (u * row_bits + p))
      ∙ ap (λ b. b && fitting p) (ap₂ (λ a b. a && not b) (cell_by_user left u p) (cell_by_user rest u p)
      ∙ sym (made.inside p l))))
    where
      fitting : ℕ → Bool
      fitting p = fit_in rows (grant_of n) (grant_of (u * row_bits + p))

      kept : (l f r : Bool) → (So r → So l) → ((l && f) && r) ≡ (r && f)
      kept true f r h = and_comm f r
      kept false f true h = absurd (not_both (h refl) refl)
      kept false f false h = refl

      gone : (l f r : Bool) → ((l && f) && not r) ≡ ((l && not r) && f)
      gone true f r = and_comm f (not r)
      gone false f r = refl

  module _ (u : ℕ) (closed before counts : List ℕ) (going : Recounting rows left rest users before u counts)
      (inside : u < users) (made : MadeCells (λ p. cell left u p && not (cell rest u p)) row_bits closed) where
    pub recount_enough : Enough (of_users_below rest user_limit) (fit_count rows u closed) counts
    recount_enough n p =
        omega (
          arith,
          going.so_far n (ltb-true (n / row_bits) user_limit (and_left (ltb (n / row_bits) user_limit)
              (marked rest n) p)) (and_right (ltb (n / row_bits) user_limit) (marked rest n) p),
          near_split n u closed made,
          sum_below_step u (near_in_row rows left n),
          sum_below_more (u + 1) users (near_in_row rows left n) (omega arith),
        )

    pub recount_goes_on : (after : List ℕ)
        → TakenOff (of_users_below rest user_limit) (fit_count rows u closed) counts after
        → Recounting rows left rest users before (u + 1) after
    recount_goes_on after changed = record {
      sized = changed.sized ∙ going.sized;
      so_far = λ n l p.
          let here = and_intro (ltb (n / row_bits) user_limit) (marked rest n) (lt-ltb (n / row_bits) user_limit l) p
          in omega (
            arith,
            rw here at (changed.says n),
            going.so_far n l p,
            recount_enough n here,
            near_split n u closed made,
            sum_below_step u (near_in_row rows left n),
            sum_below_step u (near_in_row rows rest n),
          );
      others = λ n f. changed.says n ∙ rw (f, and-false (ltb (n / row_bits) user_limit)) (going.others n f);
    }

  pub recount_ends : (before counts : List ℕ) → Recounting rows left rest users before users counts
      → Counted rows rest users counts × ((n : ℕ) → marked rest n ≡ false → get_or counts n 0 ≡ get_or before n 0)
  recount_ends before counts going =
      (record { sized = going.sized; exact = λ n l p. omega (arith, going.so_far n l p) }, going.others)
