-- The verdict from what the code finds: a grant of left that only it itself fits is single; else it is tied to the
-- grant at the lowest cell that it dominates, and stays where there is none.
use Rattle.std.specs.Prelude.{ℕ, ◌+◌, ◌<◌, ◌≡◌, refl, ◌≢◌, true, false, not, ◌&&◌, List, [], ◌∷◌, eqb, length}
use Rattle.std.proofs.Common.{arith, sym, ◌∙◌, eq-eqb}
use Rattle.std.proofs.Math.Bool.{So}
use Rattle.spec.specs.Vocabulary.{empty, filter}
use Rattle.spec.specs.Sheet.{Sheet}
use Rattle.spec.specs.Fit.{fits, partners}
use Rattle.spec.specs.Reduction.{stays, is_single, is_tied, verdict}
use Rattle.bits.specs.Truth.{not_both, not_fails, and_left, and_right}
use Rattle.cells.specs.CellSets.{cell_grants}
use Rattle.cell_rows.specs.CellPlaces.{grant_of, marked, Shown, Part, cells_of}
use Rattle.verdict.specs.NearCells.{dominates_in, tie_at}
use Rattle.verdict.specs.Laws.Near.{row_cells, partners_one_fewer, tied_by_cell, untied_by_cell}
use Rattle.verdict.specs.ReductionVerdict.{LowestIn, NoneIn}

empty_if_none : {A : Type 0} (l : List A) → length l ≡ 0 → empty l ≡ true
empty_if_none [] e = refl
empty_if_none (a ∷ l) e = absurd (omega arith)

not_empty_if_some : {A : Type 0} (l : List A) → (length l ≡ 0 → ⊥) → empty l ≡ false
not_empty_if_some [] e = absurd (e refl)
not_empty_if_some (a ∷ l) e = refl

module _ {rows : List ℕ} {users : ℕ} {sheet : Sheet} (shown : Shown rows users sheet) {left : List ℕ}
    (part : Part left rows)
    {it count : ℕ} (inside : it < cells_of users) (set : So (marked left it))
    (counted : count ≡ length (filter (fits sheet (grant_of it)) (cell_grants sheet left))) where
  others : count ≡ length (partners sheet (cell_grants sheet left) (grant_of it)) + 1
  others = counted ∙ partners_one_fewer shown part it (rw (row_cells users) at inside) set

  pub single_found : count ≡ 1 → is_single ≡ verdict sheet (cell_grants sheet left) (grant_of it)
  single_found one = rw (empty_if_none (partners sheet (cell_grants sheet left) (grant_of it)) (omega (arith, others)))

  pub tie_found : (count ≡ 1 → ⊥) → {n : ℕ} → LowestIn (tie_at rows left users it) 0 (cells_of users) n
      → is_tied (grant_of n) ≡ verdict sheet (cell_grants sheet left) (grant_of it)
  tie_found more low =
      rw (
        not_empty_if_some (partners sheet (cell_grants sheet left) (grant_of it)) (λ e. more (omega (arith, others))),
        tied_by_cell shown part it set (record {
          within = low.within;
          holds = low.holds;
          first = λ m l. low.first m
              (omega arith) l;
        }),
      )

  pub no_tie_found : (count ≡ 1 → ⊥) → NoneIn (tie_at rows left users it) 0 (cells_of users)
      → stays ≡ verdict sheet (cell_grants sheet left) (grant_of it)
  no_tie_found more none-tied =
      rw (
        not_empty_if_some (partners sheet (cell_grants sheet left) (grant_of it)) (λ e. more (omega (arith, others))),
        untied_by_cell shown part it set (λ n l. none-tied.fails n (omega arith) l),
      )

-- the cell that a grant is tied to is another one
pub tie_is_other : (rows left : List ℕ) (users it : ℕ) {from to n : ℕ} → LowestIn (tie_at rows left users it) from to
    n → it ≢ n
tie_is_other rows left users it {n = n} low e =
    not_both (eq-eqb n it (sym e))
    (not_fails (eqb n it) (and_left (not (eqb n it)) (dominates_in rows left users it n)
    (and_right (marked left n) (not (eqb n it) && dominates_in rows left users it n) low.holds)))
