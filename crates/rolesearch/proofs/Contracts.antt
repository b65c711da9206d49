-- What the long search prints is tied to the demands, from the contract as the source has it.
use Rattle.checker.specs.Laws.CodeCall.{CodeCall, Kept}
use Rattle.outputs.specs.Laws.LongPrinted.{SearchPrinted, search_printed}
use Rattle.rolesearch.proofs.rounds.long_search.Kinds as long-search-kinds
use Rattle.rolesearch.proofs.rounds.long_search.Reads as long-search-reads

-- the book that it prints is that of one search of all its steps, and is believed
pub long_search_printed : (call : CodeCall 3 long-search-kinds.ps long-search-kinds.r)
    → Kept long-search-reads.Pre long-search-reads.Post call
    → SearchPrinted call.args.1.0.now call.args.1.1.0.now call.args.1.1.1.0.now
    call.left.1.1.1.0.now call.result
long_search_printed call kept = search_printed call.args.1.0.now call.args.1.1.0.now (kept tt)
