-- The demands from the library's contracts as the sources have them. A run of the exported session calls is a
-- sequence of demand 3, as a run of the session's own calls is; the calls for a whole task are tied to the demands
-- one by one.
use mathlib.Core.Path.{refl}
use Rattle.spec.specs.Calls.{search_answer}
use Rattle.checker.specs.Laws.CodeCall.{CodeCall, Kept}
use Rattle.right.specs.CheckOwed.{CheckOwed, check_owed}
use Rattle.demands.specs.NewcomerBook.{AdmissionOwed, admission_owed}
use Rattle.answers.specs.Said.{write_said}
use Rattle.session.specs.CodeSession.{view, Sound}
use Rattle.session.specs.Laws.CodeSequence.{Calling, Tied, DemandsOf, tied_demands}
use Rattle.session.specs.Laws.CodeBooks.{NumbersOf, tied_numbers}
use Rattle.session.proofs.Contracts.{calling_by, loads_by, reduces_by, searches_by, writes_by, calling, contracts_tied}
use Rattle.porvuund.specs.SearchNumbers.{Numbers, numbers_said, numbers_searched}
use Rattle.porvuund.specs.Laws.TaskOwed.{TaskOwed, task_owed}
use Rattle.judging.specs.BookSays.{answer_of}
use Rattle.porvuund_c.proofs.sessions.porvuund_fresh.Reads as fresh-reads
use Rattle.porvuund_c.proofs.sessions.porvuund_load.Reads as load-reads
use Rattle.porvuund_c.proofs.sessions.porvuund_reduce.Reads as reduce-reads
use Rattle.porvuund_c.proofs.sessions.porvuund_search.Kinds as search-kinds
use Rattle.porvuund_c.proofs.sessions.porvuund_search.Reads as search-reads
use Rattle.porvuund_c.proofs.sessions.porvuund_write.Reads as write-reads
use Rattle.porvuund_c.proofs.calls.porvuund_book.Kinds as book-kinds
use Rattle.porvuund_c.proofs.calls.porvuund_book.Reads as book-reads
use Rattle.porvuund_c.proofs.calls.porvuund_check.Kinds as check-kinds
use Rattle.porvuund_c.proofs.calls.porvuund_check.Reads as check-reads
use Rattle.porvuund_c.proofs.calls.porvuund_newcomer.Kinds as newcomer-kinds
use Rattle.porvuund_c.proofs.calls.porvuund_newcomer.Reads as newcomer-reads

-- ---- the session calls

-- the exported calls of a session; a search's answer is the one that its numbers are
abbrev pub exported : Calling
exported =
    calling_by fresh-reads.Pre fresh-reads.Post (loads_by load-reads.Pre load-reads.Post)
    (reduces_by reduce-reads.Pre reduce-reads.Post)
    (searches_by search-kinds.r search-reads.Pre search-reads.Post (λ l r. (numbers_said r.answer, r.session)))
    (writes_by write-reads.Pre write-reads.Post)

-- each contract gives what the demands need
pub exported_tied : Tied exported
exported_tied =
    record {
      begins = λ b. b.1 tt;
      loads = λ m. m.1;
      reduces = λ m sound. let e = m.1 sound in (e.0, (e.1.0, e.1.1.0));
      stays = λ m sound. (m.1 sound).1.1.1;
      searches = λ m sound. let e = m.1 sound in (numbers_searched e.0, e.1);
      writes = λ m sound. (m.1 sound, (sound, λ n. refl));
    }

-- the demands hold of the exported calls
pub demands_of_the_library : DemandsOf exported
demands_of_the_library = tied_demands exported_tied

-- one person moves one role: a fact about the numbers printed by books that the exported calls brought out
pub numbers_of_the_library : NumbersOf exported exported
numbers_of_the_library = tied_numbers exported_tied exported_tied

-- and so it is where a session's own calls brought out the one
pub numbers_of_both : NumbersOf calling exported
numbers_of_both = tied_numbers contracts_tied exported_tied

-- the numbers of a search are those of the answer that the search owes, its state's among them
pub search_numbers : (call : CodeCall 0 search-kinds.ps search-kinds.r) → Kept search-reads.Pre search-reads.Post call
    → Sound call.args.0
    → Numbers (search_answer (view call.args.0) call.args.1.0) call.result.answer
search_numbers call kept sound = (kept sound).0.answers

-- ---- a whole task in one call

-- what `porvuund_book` brings out is believed, and its refusals are those of the session's calls
pub book_of_the_library : (call : CodeCall 2 book-kinds.ps book-kinds.r) → Kept book-reads.Pre book-reads.Post call
    → TaskOwed call.args.0.now call.args.1.0 call.args.1.1.0.now
    (record { answer = write_said call.result; lent = call.left.1.1.0.now })
book_of_the_library call kept =
    task_owed call.args.0.now call.args.1.0 call.args.1.1.0.now
    (record { answer = write_said call.result; lent = call.left.1.1.0.now }) (kept tt)

-- `porvuund_check` answers as the demands ask of a check
pub check_of_the_library : (call : CodeCall 1 check-kinds.ps check-kinds.r) → Kept check-reads.Pre check-reads.Post call
    → CheckOwed call.args.0.now call.args.1.0.now (answer_of call.result)
check_of_the_library call kept =
    check_owed call.args.0.now call.args.1.0.now (answer_of call.result) (kept tt)

-- `porvuund_newcomer` is judged by its causes, and what it brings out is owed
pub newcomer_of_the_library : (call : CodeCall 2 newcomer-kinds.ps newcomer-kinds.r)
    → Kept newcomer-reads.Pre newcomer-reads.Post call
    → AdmissionOwed
    (record { sheet = call.args.0.now; book = call.args.1.0.now; line = call.args.1.1.0.now })
    call.args.1.1.1.0.now (write_said call.result) call.left.1.1.1.0.now
newcomer_of_the_library call kept = admission_owed _ _ _ _ (kept tt)
