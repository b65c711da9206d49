-- The demands from the contracts as the source has them: a run of calls of the code is a sequence of demand 3, since
-- what each contract requires and ensures, by the reading that is made of its clauses, is what a step of a run needs
-- (`Tied`).
use mathlib.Core.Path.{refl}
use Prim.Native.Nat.{ℕ}
use borrow.Fn.Kinds.{ResultKind, In, Out, res_t}
use contract.Lifetimes.{Lfts}
use Rattle.spec.specs.Text.{Bytes}
use Rattle.spec.specs.Calls.{LoadAnswer, ReduceAnswer, SearchAnswer}
use Rattle.spec.specs.Sequence.{WriteOutcome}
use Rattle.checker.specs.Laws.CodeCall.{CodeCall, Kept}
use Rattle.answers.specs.Said.{load_said, reduce_said, search_said, write_said}
use Rattle.session.specs.Laws.CodeSequence.{Way, Calling, Tied, DemandsOf, tied_demands}
use Rattle.session.specs.Laws.CodeBooks.{NumbersOf, tied_numbers}
use Rattle.session.specs.declared.Session.{Session as CodeSession}
use Rattle.session.proofs.Session.fresh.Kinds as fresh-kinds
use Rattle.session.proofs.Session.fresh.Reads as fresh-reads
use Rattle.session.proofs.Session.load.Kinds as load-kinds
use Rattle.session.proofs.Session.load.Reads as load-reads
use Rattle.session.proofs.Session.reduce.Kinds as reduce-kinds
use Rattle.session.proofs.Session.reduce.Reads as reduce-reads
use Rattle.session.proofs.Session.search.Kinds as search-kinds
use Rattle.session.proofs.Session.search.Reads as search-reads
use Rattle.session.proofs.Session.write.Kinds as write-kinds
use Rattle.session.proofs.Session.write.Reads as write-reads

-- calls with the parameters that the session's have, whatever their contract: a load and a reduction lead to the value
-- that they hand back, a writing leaves the value that it was made on. A search may give back what it answers in
-- another form: how that is read is said with it
abbrev pub loads_by : In 1 load-kinds.ps → Out 1 load-kinds.ps load-kinds.r → Way Bytes LoadAnswer
loads_by requires ensures =
    record {
      Made = (call : CodeCall 1 load-kinds.ps load-kinds.r) × Kept requires ensures call;
      on = λ m. m.0.args.0;
      given = λ m. m.0.args.1.0.now;
      gave = λ m. load_said m.0.result.answer;
      led = λ m. m.0.result.session;
    }

abbrev pub reduces_by : In 0 reduce-kinds.ps → Out 0 reduce-kinds.ps reduce-kinds.r → Way (Unit {0}) ReduceAnswer
reduces_by requires ensures =
    record {
      Made = (call : CodeCall 0 reduce-kinds.ps reduce-kinds.r) × Kept requires ensures call;
      on = λ m. m.0.args.0;
      given = λ m. tt;
      gave = λ m. reduce_said m.0.result.answer;
      led = λ m. m.0.result.session;
    }

abbrev pub searches_by : (r : ResultKind 0) → In 0 search-kinds.ps → Out 0 search-kinds.ps r
    → ((l : Lfts 0) → (res_t r l).Denot → SearchAnswer × CodeSession) → Way ℕ SearchAnswer
searches_by r requires ensures read =
    record {
      Made = (call : CodeCall 0 search-kinds.ps r) × Kept requires ensures call;
      on = λ m. m.0.args.0;
      given = λ m. m.0.args.1.0;
      gave = λ m. (read m.0.lifetimes m.0.result).0;
      led = λ m. (read m.0.lifetimes m.0.result).1;
    }

abbrev pub writes_by : In 1 write-kinds.ps → Out 1 write-kinds.ps write-kinds.r → Way Bytes WriteOutcome
writes_by requires ensures =
    record {
      Made = (call : CodeCall 1 write-kinds.ps write-kinds.r) × Kept requires ensures call;
      on = λ m. m.0.args.0;
      given = λ m. m.0.args.1.0.now;
      gave = λ m. record { answer = write_said m.0.result; lent = m.0.left.1.0.now };
      led = λ m. m.0.args.0;
    }

abbrev pub calling_by : In 0 fresh-kinds.ps → Out 0 fresh-kinds.ps fresh-kinds.r → Way Bytes LoadAnswer
    → Way (Unit {0}) ReduceAnswer → Way ℕ SearchAnswer → Way Bytes WriteOutcome → Calling
calling_by requires ensures loads reduces searches writes =
    record {
      Begun = (call : CodeCall 0 fresh-kinds.ps fresh-kinds.r) × Kept requires ensures call;
      begun = λ b. b.0.result;
      loads = loads;
      reduces = reduces;
      searches = searches;
      writes = writes;
    }

-- the calls of a session
abbrev pub calling : Calling
calling =
    calling_by fresh-reads.Pre fresh-reads.Post (loads_by load-reads.Pre load-reads.Post)
    (reduces_by reduce-reads.Pre reduce-reads.Post)
    (searches_by search-kinds.r search-reads.Pre search-reads.Post (λ l r. (search_said r.answer, r.session)))
    (writes_by write-reads.Pre write-reads.Post)

-- each contract gives what the demands need
pub contracts_tied : Tied calling
contracts_tied =
    record {
      begins = λ b. b.1 tt;
      loads = λ m. m.1;
      reduces = λ m sound. let e = m.1 sound in (e.0, (e.1.0, e.1.1.0));
      stays = λ m sound. (m.1 sound).1.1.1;
      searches = λ m. m.1;
      writes = λ m sound. (m.1 sound, (sound, λ n. refl));
    }

-- the demands hold of every run of the code: demand 1 of every call on any value that the calls led to, also as
-- document 01 has it, demand 2 of every load and every writing, demand 3 of the whole sequence; and so does what a
-- reduction hands back, and what a value keeps whose sheet is not reduced
pub demands_of_the_code : DemandsOf calling
demands_of_the_code = tied_demands contracts_tied

-- one person moves one role: a fact about the numbers printed by books that two runs of the code brought out
pub numbers_of_the_code : NumbersOf calling calling
numbers_of_the_code = tied_numbers contracts_tied contracts_tied
