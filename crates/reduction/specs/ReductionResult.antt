-- What the code's reduction gives: of every sheet that the rows show, the kernel's cells, the removals and the number
-- of singles.
use Rattle.std.specs.Prelude.{ℕ, ◌+◌, ◌≤◌, ◌≡◌, List, length, replicate}
use Rattle.std.proofs.Common.{not-suc-le-zero, arith, sym, ap, ◌∙◌}
use Rattle.std.proofs.lemmas.List.{length-replicate}
use Rattle.spec.specs.Limits.{grant_limit}
use Rattle.spec.specs.Sheet.{Sheet}
use Rattle.spec.specs.Reduction.{Removal, reduction, kernel, singles_of, singles}
use Rattle.cells.specs.Blank.{zeros_blank}
use Rattle.cells.specs.CellSets.{cell_grants}
use Rattle.cell_rows.specs.CellPlaces.{Shown, Shows, Part}
use Rattle.verdict.specs.Log.{log_of}
use Rattle.verdict.specs.ReductionWork.{Work, work_of, remaining_cells, Logged, WorkReady, Settled}
use Rattle.verdict.specs.Laws.ReductionWork.{part_all}
use Rattle.reduction.specs.Laws.ReductionSettle.{all_remain, remaining_count}
use Rattle.reduction.specs.declared.reduction.Reduced.{Reduced}

-- as many cells are set as the sheet has grants
shows_few : {rows : List ℕ} {users : ℕ} → Shows rows users → remaining_cells rows ≤ grant_limit
shows_few {rows} given =
    rw (sym (remaining_count given.shown given.few_users (part_all rows))
    ∙ ap length (all_remain given.shown)) given.few_grants

-- nothing is removed at first
pub shows_ready : {rows : List ℕ} {users : ℕ} → Shows rows users
    → WorkReady rows users (work_of rows (replicate grant_limit 0) (replicate grant_limit 0) 0)
shows_ready {rows} given =
    record {
      shows = given;
      part = part_all rows;
      room = omega (arith, shows_few given);
      logged = record {
        removed_length = length-replicate {A = ℕ} grant_limit 0;
        partner_length = length-replicate {A = ℕ} grant_limit 0;
        removed_cell = λ i l. absurd (not-suc-le-zero l);
        partner_cell = λ i l. absurd (not-suc-le-zero l);
        removed_blank = zeros_blank 0 grant_limit;
        partner_blank = zeros_blank 0 grant_limit;
      };
    }

-- the kernel and the removals, as words and cells
abbrev pub work_in : Reduced → Work
work_in r = work_of r.left r.removed r.partner r.count

-- the removals, the latest first
abbrev pub log_in : Reduced → List Removal
log_in r = log_of r.removed r.partner r.count

-- the reduction of the grants that the rows show
pub record ReducedFrom (rows : List ℕ) (users : ℕ) (r : Reduced) : Type 0 where
  pub part : Part r.left rows
  pub room : r.count + remaining_cells r.left ≤ grant_limit
  pub logged : Logged (work_in r)
  pub remaining : (sheet : Sheet) → Shown rows users sheet → cell_grants sheet r.left ≡ kernel sheet
  pub removals : (sheet : Sheet) → Shown rows users sheet → log_in r ≡ (reduction sheet).removed
  pub single_count : (sheet : Sheet) → Shown rows users sheet → r.singles ≡ length (singles sheet)

-- settled work, with its singles counted
pub settled_reduced : {rows : List ℕ} {users : ℕ} {r : Reduced} → Settled rows users (work_in r)
    → r.singles ≡ length (singles_of (log_in r))
    → ReducedFrom rows users r
unfolding kernel singles
settled_reduced settled counted =
    record {
      part = settled.ready.part;
      room = settled.ready.room;
      logged = settled.ready.logged;
      remaining = λ sheet shown. ap (λ s. s.remaining) (settled.whole sheet shown);
      removals = λ sheet shown. ap (λ s. s.removed) (settled.whole sheet shown);
      single_count = λ sheet shown. counted ∙ ap (λ s. length (singles_of s.removed)) (settled.whole sheet shown);
    }
