-- `verdict::judgement::judge`: a grant that is the only one of left to fit it is single; else the lowest cell that it
-- dominates decides.
use Rattle.std.proofs.Common.{◌≡◌, ℕ, ◌≤◌, ◌∙◌, Bool, List, length, refl, sym, ap, eqb, eqb-true}
use Rattle.std.proofs.lemmas.Bool.{eqb-false}
use Rattle.spec.specs.Vocabulary.{filter}
use Rattle.spec.specs.Sheet.{Sheet}
use Rattle.spec.specs.Fit.{fits}
use Rattle.bits.specs.Counting.{count_below}
use Rattle.cell_rows.specs.CellPlaces.{cell_limit, cells_of, grant_of, near, Part, Shown}
use Rattle.cells.specs.CellSets.{cell_grants}
use Rattle.fit.specs.Laws.FitWord.{near_count_all}
use Rattle.verdict.specs.Laws.ReductionVisit.{cells_within}
use Rattle.verdict.specs.Laws.ReductionVerdict.{single_found, tie_found, no_tie_found, tie_is_other}
use Rattle.verdict.specs.ReductionVerdict.{LowestIn}
use Rattle.verdict.proofs.judgement.judge.Goals as goal

-- what the test says of the grants that fit
fitting_count : {rows left : List ℕ} {users : ℕ} {sheet : Sheet} {single : Bool} → Shown rows users sheet
    → Part left rows → (it : ℕ) → cells_of users ≤ cell_limit → single ≡ eqb (count_below cell_limit (near rows left it)) 1
    → single ≡ eqb (length (filter (fits sheet (grant_of it)) (cell_grants sheet left))) 1
fitting_count shown part it few counted =
    counted ∙ ap (λ n. eqb n 1) (near_count_all shown part it few)

pub returns-then-is_single : goal.returns-then-is_single
returns-then-is_single c =
    let given = c.requires.0 in
    record {
      named = tt;
      right = λ sheet shown.
          single_found shown given.part given.within given.set refl
          (eqb-true _ 1 (sym (fitting_count shown given.part c.args.it.0 (cells_within given.shows.few_users) c.is_single.ensures)
          ∙ c.if-is_single.true));
    }

pub returns-in-Some : goal.returns-in-Some
returns-in-Some c =
    let given = c.requires.0 in
    let a = c.args in
    let low : LowestIn _ 0 _ _ = rw c.in-Some.is at c.tie.ensures in
    record {
      named = (low.within, tie_is_other a.rows.now a.left.now a.users a.it.0 low);
      right = λ sheet shown.
          tie_found shown given.part given.within given.set refl
          (eqb-false _ 1 (sym (fitting_count shown given.part c.args.it.0 (cells_within given.shows.few_users) c.is_single.ensures)
          ∙ c.if-is_single.false))
          low;
    }

pub returns-in-None : goal.returns-in-None
returns-in-None c =
    let given = c.requires.0 in
    record {
      named = tt;
      right = λ sheet shown.
          no_tie_found shown given.part given.within given.set refl
          (eqb-false _ 1 (sym (fitting_count shown given.part c.args.it.0 (cells_within given.shows.few_users) c.is_single.ensures)
          ∙ c.if-is_single.false))
          (rw c.in-None.is at c.tie.ensures);
    }
