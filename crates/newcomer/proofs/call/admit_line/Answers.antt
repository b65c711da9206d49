-- `call::admit_line`: the book is judged by what the checker answers of it, then the name, then the room for a user.
-- Where none of these refuses, the line can be added, and what was read of the book is ready for the newcomer.
use Rattle.std.proofs.Common.{◌≡◌, ◌*◌, refl, sym, ap, ◌∙◌, arith, eqb-true, take}
use Rattle.std.proofs.lemmas.Result.{err_from_is_err_and}
use borrow.Author.Tests.{le-leb, lt-leb}
use Rattle.spec.specs.Limits.{user_limit, sheet_limit, role_limit}
use Rattle.spec.specs.Refusal.{refusal}
use Rattle.spec.specs.Text.{Bytes}
use Rattle.spec.specs.Calls.{CheckAnswer, check}
use Rattle.spec.specs.Sheet.{user_count}
use Rattle.spec.specs.Newcomer.{Admission, given_sheet, users_at_limit}
use Rattle.rules.specs.AcceptedFacts.{accepted_lawful}
use Rattle.cell_rows.specs.Rows.{row_words}
use Rattle.form.specs.RowSteps.{zeros_blank}
use Rattle.book_lines.specs.Laws.LineWritten.{front_written}
use Rattle.longer.specs.LineAdded.{longer_short, name_taken_told}
use Rattle.checker.specs.Laws.CheckSteps.{number_some}
use Rattle.newcomer.specs.Ready.{Ready}
use Rattle.newcomer.specs.Laws.Numbers.{book_refuses, name_refuses, users_refuse, refused_by}
use Rattle.newcomer.proofs.call.admit_line.Goals as goal
use Rattle.newcomer.proofs.call.admit_line.Goals.{After-put_longer-length}

-- what is lent
abbrev lent_with : Bytes → Bytes → Bytes → Admission
lent_with sheet book line = record { sheet = sheet; book = book; line = line }

pub read_book-requires-clause-all_blank : goal.read_book-requires-clause-all_blank
unfolding role_limit row_words
read_book-requires-clause-all_blank c = (
  rw c.no_rows-has.ensures (zeros_blank (user_limit * row_words)),
  zeros_blank (role_limit * row_words),
)

pub returns-in_err-read : goal.returns-in_err-read
returns-in_err-read c =
    let lent = lent_with c.args.sheet.now c.args.book.now c.args.line.now in
    let accepts = eqb-true (refusal c.args.sheet.now) 0 c.requires.0.accepts in
    let refuses = number_some c.in_err-read.field-0.0 in
    let p = err_from_is_err_and c.from_residual.result c.from_residual.ensures.1 in
    rw (p.1, p.2)
    (refused_by lent c.args.out.now
    (book_refuses lent c.args.out.now accepts c.requires.2 c.in_err-read.ensures.checks refuses) refuses refl)

pub returns-then-name_taken : goal.returns-then-name_taken
returns-then-name_taken c =
    let lent = lent_with c.args.sheet.now c.args.book.now c.args.line.now in
    let accepts = eqb-true (refusal c.args.sheet.now) 0 c.requires.0.accepts in
    let stands : (check c.args.sheet.now c.args.book.now).number ≡ 0 =
    ap (λ (answer : CheckAnswer). answer.number) (sym c.in_ok-read.ensures.checks.answers) in
    refused_by lent c.args.out.now
    (name_refuses lent c.args.out.now accepts c.requires.2 stands
    (name_taken_told lent c.requires.0.accepts c.requires.2 ∙ sym c.name_taken.ensures ∙ c.if-name_taken.true))
    (λ z. omega arith) refl

pub returns-then-layout-eq-USER_LIMIT : goal.returns-then-layout-eq-USER_LIMIT
unfolding users_at_limit user_limit
returns-then-layout-eq-USER_LIMIT c =
    let lent = lent_with c.args.sheet.now c.args.book.now c.args.line.now in
    let accepts = eqb-true (refusal c.args.sheet.now) 0 c.requires.0.accepts in
    let stands : (check c.args.sheet.now c.args.book.now).number ≡ 0 =
    ap (λ (answer : CheckAnswer). answer.number) (sym c.in_ok-read.ensures.checks.answers) in
    let free = name_taken_told lent c.requires.0.accepts c.requires.2 ∙ sym c.name_taken.ensures
    ∙ c.if-name_taken.false in
    let total = c.requires.0.user_total in
    refused_by lent c.args.out.now
    (users_refuse lent c.args.out.now accepts c.requires.2 stands free
    (le-leb 256 (user_count (given_sheet lent)) (omega (arith, total, c.if-layout-eq-USER_LIMIT.true))))
    (λ z. omega arith) refl

pub put_longer-length-requires : goal.put_longer-length-requires
unfolding sheet_limit
put_longer-length-requires c =
    longer_short (lent_with c.args.sheet.now c.args.book.now c.args.line.now) c.requires.0.accepts c.requires.2

-- all is ready
ready : (c : After-put_longer-length)
    → Ready (lent_with c.args.sheet.now c.args.book.now c.args.line.now)
    (take c.put_longer-length.result c.put_longer-length.new.text) c.args.layout.users c.in_ok-read.read
    c.read_book.new.has c.read_book.new.gives
unfolding users_at_limit user_limit
ready c =
    let lent = lent_with c.args.sheet.now c.args.book.now c.args.line.now in
    let few = (accepted_lawful c.args.sheet.now c.requires.0.accepts).few_users in
    let total = c.requires.0.user_total in
    record {
      longer_text = front_written c.put_longer-length.ensures;
      last = total;
      addable = record {
        given = c.requires.0.accepts;
        unrefused = c.requires.2;
        new_name =
            name_taken_told lent c.requires.0.accepts c.requires.2 ∙ sym c.name_taken.ensures
            ∙ c.if-name_taken.false;
        room =
            lt-leb 256 (user_count (given_sheet lent)) (omega (arith, few, total, c.if-layout-eq-USER_LIMIT.false));
      };
      book_accepted = ap (λ (answer : CheckAnswer). answer.number) (sym c.in_ok-read.ensures.checks.answers);
      as_read = c.in_ok-read.ensures.read_as;
    }

pub write_new-requires : goal.write_new-requires
write_new-requires c =
    record { lent = _; ready = ready (goal.at.write_new-requires c).After-put_longer-length }

pub returns : goal.returns
returns c = c.write_new.ensures _ (ready (goal.at.returns c).After-put_longer-length)
