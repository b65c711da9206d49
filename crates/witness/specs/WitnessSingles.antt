-- The cells of the singles, from the log: a removal whose partner is its own cell is a single, and no other removal
-- adds one. If the singles are grants of the sheet, their cells are cells of its rows.
use Rattle.std.specs.Prelude.{ℕ, suc, ◌≡◌, false, ◌||◌, eqb, get_or, replicate}
use Rattle.std.proofs.Common.{sym, ◌∙◌, eqb-true, eq-eqb}
use Rattle.std.proofs.Math.Bool.{or_comm}
use mathlib.Core.List.{List, Memᴰ}
use Rattle.spec.specs.Sheet.{Sheet, Grant, grants}
use Rattle.spec.specs.Fit.{among}
use Rattle.spec.specs.Reduction.{singles_of}
use Rattle.bits.specs.Truth.{same_truth}
use Rattle.cells.specs.Laws.Grant.{grant_held}
use Rattle.fit.specs.Laws.Among.{among_member}
use Rattle.cell_rows.specs.CellPlaces.{grant_of, marked, Shown, Part}
use Rattle.cells.specs.Laws.CellList.{marked_holds}
use Rattle.verdict.specs.Log.{log_of}
use Rattle.verdict.specs.Laws.Near.{same_cell}
use Rattle.cells.specs.Laws.MadeCells.{no_cells}

-- the cells of some grants
pub record CellsOf (words : List ℕ) (l : List Grant) : Type 0 where
  pub cell : (n : ℕ) → marked words n ≡ among l (grant_of n)

pub no_singles : (removed partner : List ℕ) (count : ℕ) → CellsOf (replicate count 0)
    (singles_of (log_of removed partner 0))
no_singles removed partner count = record { cell = no_cells count }

module _ (removed partner : List ℕ) (i : ℕ) (words : List ℕ)
    (so_far : CellsOf words (singles_of (log_of removed partner i))) where
  pub single_put_in : get_or removed i 0 ≡ get_or partner i 0 → (more : List ℕ)
      → ((n : ℕ) → marked more n ≡ (marked words n || eqb n (get_or removed i 0)))
      → CellsOf more (singles_of (log_of removed partner (suc i)))
  single_put_in e more says = record {
    cell = λ n.
        says n
        ∙ rw (
          eq-eqb (get_or removed i 0) (get_or partner i 0) e,
          same_cell n (get_or removed i 0),
          turned n (get_or removed i 0),
          so_far.cell n,
        )
        (or_comm (among (singles_of (log_of removed partner i)) (grant_of n)) (eqb n (get_or removed i 0)));
  }
    where
      turned : (m n : ℕ) → eqb n m ≡ eqb m n
      turned m n = same_truth (eqb n m) (eqb m n) (λ p. eq-eqb m n (sym (eqb-true n m p)))
          (λ p. eq-eqb n m (sym (eqb-true m n p)))

  pub tied_left_out : eqb (get_or removed i 0) (get_or partner i 0) ≡ false
      → CellsOf words (singles_of (log_of removed partner (suc i)))
  tied_left_out f = record { cell = λ n. rw f (so_far.cell n) }

-- the cells of grants of the sheet are cells of its rows
pub grants_part : {rows : List ℕ} {users : ℕ} {sheet : Sheet} → Shown rows users sheet
    → {words : List ℕ} {l : List Grant} → CellsOf words l
    → ((g : Grant) → Memᴰ g l → Memᴰ g (grants sheet)) → Part words rows
grants_part {sheet = sheet} shown {l = l} cells granted = record {
  held = λ n p. marked_holds shown n ∙ grant_held sheet
      (granted (grant_of n) (among_member l (grant_of n) (sym (cells.cell n) ∙ p)));
}
