-- What the programs print is tied to the demands, from the contracts as the sources have them.
use Rattle.checker.specs.Laws.CodeCall.{CodeCall, Kept}
use Rattle.outputs.specs.Laws.Printed.{BookPrinted, book_printed, CheckPrinted, check_printed}
use Rattle.outputs.specs.Laws.NewcomerPrinted.{NewcomerPrinted, newcomer_printed}
use Rattle.outputs.proofs.output.book_output.Kinds as book-output-kinds
use Rattle.outputs.proofs.output.book_output.Reads as book-output-reads
use Rattle.outputs.proofs.output.check_output.Kinds as check-output-kinds
use Rattle.outputs.proofs.output.check_output.Reads as check-output-reads
use Rattle.outputs.proofs.output.newcomer_output.Kinds as newcomer-output-kinds
use Rattle.outputs.proofs.output.newcomer_output.Reads as newcomer-output-reads

-- the book that the book program prints is believed
pub book_program_printed : (call : CodeCall 2 book-output-kinds.ps book-output-kinds.r)
    → Kept book-output-reads.Pre book-output-reads.Post call
    → BookPrinted call.args.0.now call.args.1.0.now call.args.1.1.0.now
    call.left.1.1.0.now call.result
book_program_printed call kept = book_printed call.args.0.now call.args.1.0.now (kept tt)

-- the line that the check program prints is that of an answer that is owed
pub check_program_printed : (call : CodeCall 2 check-output-kinds.ps check-output-kinds.r)
    → Kept check-output-reads.Pre check-output-reads.Post call
    → CheckPrinted call.args.0.now call.args.1.0.now call.args.1.1.0.now
    call.left.1.1.0.now call.result
check_program_printed call kept = check_printed call.args.0.now call.args.1.0.now (kept tt)

-- the book that the newcomer program prints is owed
pub newcomer_program_printed : (call : CodeCall 2 newcomer-output-kinds.ps newcomer-output-kinds.r)
    → Kept newcomer-output-reads.Pre newcomer-output-reads.Post call
    → NewcomerPrinted
    (record { sheet = call.args.0.now; book = call.args.1.0.now; line = call.args.1.1.0.now })
    call.args.1.1.1.0.now call.left.1.1.1.0.now call.result
newcomer_program_printed call kept = newcomer_printed _ (kept tt)
