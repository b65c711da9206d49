-- Demands 1 and 2 from the checker's contract as the source has it: what `check` requires and ensures, by the reading
-- that is made of its clauses, is what the demands ask of a check.
use Rattle.checker.specs.Laws.CodeCall.{CodeCall, Kept}
use Rattle.right.specs.CheckOwed.{CheckOwed, check_owed}
use Rattle.judging.specs.BookSays.{answer_of}
use Rattle.checker.proofs.checking.check.Kinds as check-kinds
use Rattle.checker.proofs.checking.check.Reads as check-reads

-- for any sheet and any book, `check` answers as the demands ask
pub demands_1_and_2_of_the_checker : (call : CodeCall 1 check-kinds.ps check-kinds.r)
    → Kept check-reads.Pre check-reads.Post call
    → CheckOwed call.args.0.now call.args.1.0.now (answer_of call.result)
demands_1_and_2_of_the_checker call kept =
    check_owed call.args.0.now call.args.1.0.now (answer_of call.result) (kept tt)
