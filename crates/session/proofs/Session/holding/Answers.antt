-- `session::Session::holding`: an accepted sheet is short enough to be kept whole. The session then has its bytes, its layout
-- and its rows, and the counts are those of the layout.
use Rattle.std.proofs.Common.{◌≡◌, ap}
use Rattle.spec.specs.Session.{read}
use Rattle.session.specs.Laws.Loading.{unrefused_short, counts_found}
use Rattle.session.proofs.Session.holding.Goals as goal

pub copied-text-requires : goal.copied-text-requires
copied-text-requires c = unrefused_short c.args.s.now c.requires.unrefused

pub returns-clause-counts : goal.returns-clause-counts
returns-clause-counts c = counts_found c.args.s.now _ c.requires.found_in.0

pub returns-clause-held : goal.returns-clause-held
returns-clause-held c = ap read c.copied-text.ensures.result_value
