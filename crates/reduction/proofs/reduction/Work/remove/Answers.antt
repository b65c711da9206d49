-- `reduction::reduction::Work::remove`: the cell's word loses its bit, and the log has one more entry at its end; no
-- other entry changes.
use Rattle.std.proofs.Common.{arith, refl, length-set, get_or-set_same, get_or-set_other}
use Rattle.verdict.specs.Laws.ReductionRemove.{bit_cleared}
use Rattle.reduction.proofs.reduction.Work.remove.Goals as goal

pub returns : goal.returns
returns c =
    let before = c.args.self.now in
    let a = c.args in
    let given = c.requires in
    record {
      left = bit_cleared before.left a.it.0 c.without.result given.set c.without.ensures;
      one_more = refl;
      removed_length = length-set before.removed before.count a.it.0;
      partner_length = length-set before.partner before.count a.other.0;
      removed_last = get_or-set_same before.removed before.count a.it.0 0
          (omega (arith, given.logged.removed_length, given.room));
      partner_last = get_or-set_same before.partner before.count a.other.0 0
          (omega (arith, given.logged.partner_length, given.room));
      removed_kept = λ i other. get_or-set_other before.removed before.count i a.it.0 0 other;
      partner_kept = λ i other. get_or-set_other before.partner before.count i a.other.0 0 other;
    }
