-- What is owed of a call that puts a newcomer in an existing book. A role set for the longer sheet is one
-- for the given sheet, so where every one of the given sheet has n roles, every one of the longer sheet has: a kept
-- word and a kept bound are as true as they were. With a new role the word is `open`, and the bound is the number of
-- witness lines, each of which needs a role of its own. The new book is right, so a buffer of 131,072 bytes takes it.
use Rattle.std.specs.Prelude.{ℕ, ◌≤◌, ◌≡◌, refl, ◌≢◌, ◌⊎◌, length, take}
use Rattle.std.proofs.Common.{arith, sym, ap, ◌∙◌, ⊎_elim}
use Rattle.spec.specs.Text.{Bytes}
use Rattle.spec.specs.Rules.{Keeps}
use Rattle.spec.specs.Roles.{Standing, witnessed, searched, unsettled}
use Rattle.spec.specs.Book.{Said}
use Rattle.spec.specs.Refusal.{first_number}
use Rattle.spec.specs.Right.{Right}
use Rattle.spec.specs.Calls.{WriteAnswer, write_refused}
use Rattle.spec.specs.Demands.{Judged}
use Rattle.spec.specs.Newcomer.{Admission, longer, given_sheet, longer_sheet, newcomer, said_given, said_admitting}
use Rattle.spec.specs.Newcomer.{new_book, newcomer_causes, newcomer_answer, buffer_admitting, Admits}
use Rattle.spec.specs.Admitted.{AtLeast, WordTrue, NoNewRole, OneNewRole, Admitted, NewcomerOwed}
use Rattle.rules.specs.Accepted.{accepted_keeps}
use Rattle.longer.specs.OneLine.{added_name, added_row}
use Rattle.longer.specs.LongerSheet.{longer_sheet_told}
use Rattle.right.specs.ReadBack.{SaysSame}
use Rattle.right.specs.Exact.{answers_counts, keeps_good}
use Rattle.admitted.specs.OneMoreUser.{at_least_as_before}
use Rattle.admitted.specs.LeftOver.{gets_exactly}
use Rattle.admitted.specs.RolesAdmitting.{has_as_before, has_theirs, gives_as_before}
use Rattle.admitted.specs.NewRole.{new_role_if_left_over}
use Rattle.admitted.specs.NewcomerCauses.{Admissible, zero_admissible, eleven_too_short}
use Rattle.admitted.specs.NewBook.{said_after, one_more, given_is_right, new_book_right}
use Rattle.admitted.specs.SameSaid.{right_says_same}
use Rattle.admitted.specs.Exactly.{owed_is_brought_out}
use Rattle.demands.specs.TextWritten.{front_is_the_text}
use Rattle.demands.specs.CheckerAlone.{lines_bound}
use Rattle.demands.specs.Demand1.{demand_1, newcomer_number}

-- `open` is neither of the two words that promise something
open_promises_nothing : {s : Standing} → s ≡ unsettled → (s ≡ witnessed) ⊎ (s ≡ searched) → ⊥
open_promises_nothing opens =
    ⊎_elim (λ w. let z : ◌≡◌ {A = ℕ} 0 1 = cc in omega arith) (λ w. let z : ◌≡◌ {A = ℕ} 0 1 = cc in omega arith)

module _ (lent : Admission) (admissible : Admissible lent) where
  abbrev before : Said
  before = said_given lent

  abbrev after : Said
  after = said_after lent

  -- ---- bound and state word

  no_fewer : (n : ℕ) → AtLeast n (given_sheet lent) → AtLeast n (longer_sheet lent)
  no_fewer = at_least_as_before (one_more lent admissible)

  new_role : NoNewRole (longer_sheet lent) (newcomer lent) before after
      ⊎ OneNewRole (longer_sheet lent) (newcomer lent) before after
  new_role = new_role_if_left_over (longer_sheet lent) (newcomer lent) before

  -- the new book has the given book's witness lines
  lines_still_bound : AtLeast (length before.witness) (longer_sheet lent)
  unfolding said_admitting
  lines_still_bound =
      lines_bound (longer lent) (new_book lent) after (longer_sheet_told lent admissible.addable).accepts
      (new_book_right lent admissible)

  given_kept : Keeps lent.sheet (given_sheet lent)
  given_kept = accepted_keeps lent.sheet admissible.addable.given

  -- whatever the given book is taken to say, it says what the checker read
  read_as : (says : Said) → Right (given_sheet lent) lent.book says → SaysSame (given_sheet lent) before says
  read_as says right = right_says_same (given_sheet lent) (keeps_good given_kept) lent.book before says
      (given_is_right lent admissible) right

  bound_stays_true : (says : Said) → Right (given_sheet lent) lent.book says
      → AtLeast says.bound (given_sheet lent) → AtLeast after.bound (longer_sheet lent)
  bound_stays_true says right least =
      ⊎_elim (λ kept. rw (kept.bound, (read_as says right).bound) (no_fewer says.bound least))
      (λ one. rw one.bound lines_still_bound) new_role

  word_stays_true : (says : Said) → Right (given_sheet lent) lent.book says
      → WordTrue says (given_sheet lent) → WordTrue after (longer_sheet lent)
  word_stays_true says right word settled =
      let same = read_as says right in
      ⊎_elim
      (λ kept. rw (same_count kept, same.count)
      (no_fewer says.count (word (rw (kept.standing, same.standing) at settled))))
      (λ one. absurd (open_promises_nothing one.standing settled)) new_role
    where
      same_count : NoNewRole (longer_sheet lent) (newcomer lent) before after → after.count ≡ before.count
      same_count kept =
          (new_book_right lent admissible).counts.roles ∙ kept.count
          ∙ sym (given_is_right lent admissible).counts.roles

  -- ---- all that is owed of the new book

  pub admitted_owed : Admitted lent (new_book lent)
  unfolding new_book said_admitting
  admitted_owed =
      let told = longer_sheet_told lent admissible.addable in
      let kept = accepted_keeps (longer lent) told.accepts in
      let right = new_book_right lent admissible in
      record {
        given_kept = given_kept;
        name = added_name lent.line;
        row = added_row lent.line;
        line_written = told.line_written;
        longer_is = told.longer_is;
        longer_kept = kept;
        before = before;
        after = after;
        given_right = given_is_right lent admissible;
        right = right;
        written = refl;
        confirmed_by_check = answers_counts (longer lent) (new_book lent) (longer_sheet lent) after kept right;
        same_roles = λ u r l k.
            has_as_before (longer_sheet lent) (newcomer lent) before.roles u r (λ e. omega arith) k;
        same_permissions = λ r p l k. gives_as_before (longer_sheet lent) (newcomer lent) before.roles r p l;
        same_witness = refl;
        theirs = λ r l.
            let has = has_theirs (longer_sheet lent) (newcomer lent) before.roles r l in
            let gets = gets_exactly (longer_sheet lent) (newcomer lent) before.roles r in
            (λ e. gets.0 (sym has ∙ e), λ all. has ∙ gets.1 all);
        new_role = new_role;
        at_least = no_fewer;
        bound_true = bound_stays_true;
        word_true = word_stays_true;
        witness_true = lines_still_bound;
      }

-- ---- through what a call brought out

module _ (lent : Admission) (before after : Bytes) (answer : WriteAnswer) (admits : Admits lent before answer after)
  where
    answered_number : answer.number ≡ first_number (newcomer_causes lent before)
    answered_number = ap (λ (a : WriteAnswer). a.number) admits.answers ∙ newcomer_number lent before

    -- an accepted call brings out the new book, whole
    pub brings_the_new_book : answer.number ≡ 0 → take answer.count after ≡ new_book lent
    unfolding newcomer_answer buffer_admitting
    brings_the_new_book accepts =
        rw (admits.answers, admits.fills)
        (front_is_the_text (first_number (newcomer_causes lent before)) (new_book lent) before
        (sym answered_number ∙ accepts))

pub newcomer_owed : NewcomerOwed
newcomer_owed =
    record {
      admitted = λ lent before after answer admits accepts.
          rw (brings_the_new_book lent before after answer admits accepts)
          (admitted_owed lent
          (zero_admissible lent before (sym (answered_number lent before after answer admits) ∙ accepts)));
      exactly = owed_is_brought_out;
      room = λ lent before after answer admits long eleven.
          let short = eleven_too_short lent before (sym (answered_number lent before after answer admits) ∙ eleven) in
          omega (arith, short.short, (new_book_right lent short.admissible).of_form.short);
    }

-- all that is owed of one call: it is judged by its causes, and what it brought out is as it is owed
pub record AdmissionOwed (lent : Admission) (before : Bytes) (answer : WriteAnswer) (after : Bytes) : Type 0 where
  pub judged : Judged (newcomer_causes lent before) answer.number
      ((answer ≡ write_refused answer.number) × (after ≡ before))
  pub admitted : answer.number ≡ 0 → Admitted lent (take answer.count after)
  pub exactly : (result : Bytes) → Admitted lent result → length result ≤ length before
      → (answer.number ≡ 0) × (take answer.count after ≡ result)
  pub room : 131_072 ≤ length before → answer.number ≢ 11

pub admission_owed : (lent : Admission) (before after : Bytes) (answer : WriteAnswer) → Admits lent before answer after
    → AdmissionOwed lent before answer after
admission_owed lent before after answer admits =
    record {
      judged = demand_1.admits lent before after answer admits;
      admitted = newcomer_owed.admitted lent before after answer admits;
      exactly = newcomer_owed.exactly lent before after answer admits;
      room = newcomer_owed.room lent before after answer admits;
    }
