-- `verdict::judgement::is_one`: nothing is left of a word of one position without its lowest.
use Rattle.verdict.specs.Laws.Single.{one_position}
use Rattle.verdict.proofs.judgement.is_one.Goals as goal

pub returns : goal.returns
returns c =
    one_position c.args.w c.without_lowest.result c.requires c.ranges.w.fits c.without_lowest.ensures
