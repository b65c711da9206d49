-- `rounds::long_search`: each call takes the session that the one before left, and a load's number is the sheet's.
use native.Mathlib.Omega.{arith}
use Rattle.std.specs.Prelude.{[], ◌∷◌}
use Rattle.std.proofs.Common.{sym, ◌∙◌}
use Rattle.text.specs.Written.{written_as}
use Rattle.porvuund.specs.OneShot.{loaded_number}
use Rattle.outputs.specs.Lines.{number_line_length}
use Rattle.rolesearch.specs.Laws.LongOutput.{number_printed, session_printed}
use Rattle.rolesearch.proofs.rounds.long_search.Goals as goal

pub put_number_line-requires : goal.put_number_line-requires
put_number_line-requires c =
    let room = c.told-out in
    omega (arith, number_line_length c.load-loaded.result.answer.number (omega arith))

pub returns-then-answer-ne0 : goal.returns-then-answer-ne0
returns-then-answer-ne0 c =
    written_as (number_printed c.args.sheet.now (c.args.word.now ∷ []) c.load-loaded.result.answer.number
    (loaded_number c.args.sheet.now c.load-loaded.ensures.loads) c.if-answer-ne0.true) c.put_number_line.ensures

pub returns : goal.returns
returns c =
    written_as (session_printed c.args.sheet.now (c.args.word.now ∷ [])
    (sym (loaded_number c.args.sheet.now c.load-loaded.ensures.loads) ∙ c.if-answer-ne0.false)
    c.fresh.ensures.result_value c.load-loaded.ensures.loads c.reduce-reduced.ensures.reduces c.rounds_of.ensures
    c.search_rounds-made.ensures.rounds_made) c.session_output.ensures
