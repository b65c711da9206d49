-- `kinds::all_of`: the test is asked of each byte.
use Rattle.std.proofs.Common.{rules}
use borrow.Author.Tests.{tests}
use Rattle.std.proofs.lemmas.Iterator.{YieldsList-from_slice}
use Rattle.std.proofs.lemmas.Iterator.Search.{all_from_yields_List}
use Rattle.spelling.specs.Kinds.{byte_of}
use Rattle.spelling.proofs.kinds.all_of.Goals as goal

pub returns : goal.returns
returns c =
    all_from_yields_List (byte_of c.args.kind) c.all.new.self _ _ c.all.ensures.ran
    (YieldsList-from_slice c.args.s.now (cc)) (λ x b q k. search (rules, tests))
