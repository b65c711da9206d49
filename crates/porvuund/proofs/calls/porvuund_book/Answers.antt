-- `calls::porvuund_book`: each call takes the session that the one before left, and a load's number is the sheet's.
use Rattle.std.proofs.Common.{sym, ◌∙◌}
use Rattle.porvuund.specs.OneShot.{loaded_number, refused_by_load, written_after}
use Rattle.porvuund.proofs.calls.porvuund_book.Goals as goal

pub returns-then-number-ne0 : goal.returns-then-number-ne0
returns-then-number-ne0 c =
    refused_by_load c.args.sheet.now c.args.budget c.args.out.now c.porvuund_load-loaded.result.answer.number
    (loaded_number c.args.sheet.now c.porvuund_load-loaded.ensures.loads) c.if-number-ne0.true

pub returns : goal.returns
returns c =
    written_after c.args.sheet.now c.args.budget c.args.out.now
    (sym (loaded_number c.args.sheet.now c.porvuund_load-loaded.ensures.loads) ∙ c.if-number-ne0.false)
    c.fresh-fresh.ensures.result_value c.porvuund_load-loaded.ensures.loads c.porvuund_reduce-reduced.ensures.reduces
    c.search-searched.ensures.searches c.porvuund_write.ensures
