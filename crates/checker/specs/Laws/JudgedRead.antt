-- A book of which all four blocks were read. It is judged by what was read, since that is written as the book. Where
-- the answer's number is 0, the book is right, and says what was read.
use Rattle.std.specs.Prelude.{ℕ, ◌≤◌, ◌≡◌, List, length}
use Rattle.std.proofs.Common.{sym, ap, ◌∙◌, eqb-true}
use Rattle.std.proofs.Math.Bool.{So}
use Rattle.spec.specs.Limits.{book_limit}
use Rattle.spec.specs.Text.{Bytes}
use Rattle.spec.specs.Sheet.{sheet_of}
use Rattle.spec.specs.Book.{Said}
use Rattle.spec.specs.Refusal.{refusal, accepted}
use Rattle.spec.specs.Calls.{CheckAnswer, Checks}
use Rattle.rules.specs.Accepted.{accepted_keeps}
use Rattle.right.specs.Exact.{keeps_good, reads_books}
use Rattle.right.specs.Judgement.{WrittenAs, reads_same, written_book}
use Rattle.judging.specs.declared.judgement.BookRead.{BookRead}
use Rattle.judging.specs.BookSays.{Says, JudgedAs}
use Rattle.checker.specs.BlocksRead.{AllRead, said_read, read_is_written, read_is_said}
use Rattle.checker.specs.ReadAs.{ReadAs}

module _ (text : Bytes) {book : Bytes} (stands : So (accepted text)) (short : length book ≤ book_limit)
    {has gives : List ℕ} {r : BookRead} (all : AllRead (sheet_of text) book has gives r) {answer : CheckAnswer}
    (judged : JudgedAs (sheet_of text) r.counts r.roles has gives r.witness answer) where
  abbrev read : Said
  read = said_read (sheet_of text) all.front has all.users all.last

  is_said : Says (sheet_of text) r.counts r.roles has gives r.witness read
  is_said = read_is_said (sheet_of text) all.front has all.users all.last short

  is_written : WrittenAs (sheet_of text) book read
  is_written = read_is_written (sheet_of text) all.front has all.users all.last short

  pub judged_as_checked : Checks text book answer
  judged_as_checked =
      record {
        answers =
            judged.judged read is_said
            ∙ sym (written_book text book read (eqb-true (refusal text) 0 stands) is_written);
      }

  pub accepted_as_read : answer.number ≡ 0 → ReadAs (sheet_of text) book r has gives
  accepted_as_read accepts =
      record {
        says = read;
        says_read = is_said;
        same = reads_same (sheet_of text) (keeps_good (accepted_keeps text stands)) book read is_written;
        right =
            reads_books text book
            (sym (ap (λ (a : CheckAnswer). a.number) judged_as_checked.answers) ∙ accepts);
        role_cells = all.users.beyond;
        user_rows = all.users.blank;
        role_rows = all.front.roles_at.blank;
      }
