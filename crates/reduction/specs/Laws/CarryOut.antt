-- What is judged of a remaining grant can be carried out, and then the grant was visited.
use Rattle.std.specs.Prelude.{ℕ, ◌<◌, List, [], ◌∷◌}
use Rattle.std.proofs.Math.Bool.{So}
use Rattle.cell_rows.specs.CellPlaces.{cells_of, marked}
use Rattle.verdict.specs.declared.judgement.Verdict.{Verdict}
use Rattle.verdict.specs.declared.judgement.Verdict.TheVariants.{Stays, Single, Tied}
use Rattle.verdict.specs.ReductionVerdict.{GrantJudged}
use Rattle.verdict.specs.ReductionWork.{Work, WorkReady, Visited}
use Rattle.verdict.specs.Laws.ReductionVisit.{removable, visit_stays, visit_single, visit_tied}
use Rattle.reduction.specs.CarriedOut.{Carriable, CarriedOut}

module _ {rows : List ℕ} {users it : ℕ} {before : Work} (ready : WorkReady rows users before)
    (inside : it < cells_of users) (set : So (marked before.left it)) where
  pub carriable : (judged : Verdict) → GrantJudged rows before.left users it judged → Carriable it judged before
  carriable Stays right = tt
  carriable Single right = removable ready inside set inside
  carriable (Tied other) right = removable ready inside set right.named.0

  pub visited : (judged : Verdict) {after : Work} → GrantJudged rows before.left users it judged
      → CarriedOut it judged before after → Visited rows users (it ∷ []) before after
  visited Stays right same = rw same (visit_stays ready right)
  visited Single right removed = visit_single ready inside set right removed
  visited (Tied other) right removed = visit_tied ready inside set right removed
