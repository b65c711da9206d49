-- What is owed of what the programs print. The book program prints what one task on a buffer of 65,536 bytes brings
-- out, which is believed, and 11 where the book of an accepted sheet is longer. The check program prints the line of an
-- answer that is owed.
use Rattle.std.specs.Prelude.{ℕ, ◌≤◌, ◌<◌, ◌≡◌, refl, false, List, [], ◌∷◌, length, take, replicate}
use Rattle.std.proofs.Common.{arith, ap, ◌∙◌}
use Rattle.std.proofs.Math.Bool.{So}
use borrow.Author.Tests.{eq-eqb}
use Rattle.std.proofs.Math.ListN.{length-replicate}
use Rattle.spec.specs.Limits.{program_buffer}
use Rattle.spec.specs.Text.{Bytes}
use Rattle.spec.specs.Sheet.{sheet_of}
use Rattle.spec.specs.Machine.{State}
use Rattle.spec.specs.Roles.{start_of}
use Rattle.spec.specs.Book.{book}
use Rattle.spec.specs.Session.{reduced}
use Rattle.spec.specs.Refusal.{refusal, accepted}
use Rattle.spec.specs.Calls.{searched_on, after_load, after_reduce, after_search, WriteAnswer, write_answer}
use Rattle.spec.specs.Calls.{CheckAnswer, check}
use Rattle.spec.specs.Program.{budget_of, number_line, printed, program_output}
use Rattle.spec.specs.Sequence.{WriteOutcome, brought_out}
use Rattle.spec.specs.Demands.{Believed}
use Rattle.spec.specs.OneChange.{NumbersOneApart}
use Rattle.text.specs.Written.{Written}
use Rattle.book_lines.specs.Laws.LineWritten.{front_written}
use Rattle.demands.specs.Answers.{reduced_write, reduced_write_short}
use Rattle.demands.proofs.OneMoves.{believed_numbers}
use Rattle.right.specs.CheckOwed.{CheckOwed, check_owed}
use Rattle.porvuund.specs.OneShot.{searched_once, book_answer, book_buffer}
use Rattle.porvuund.specs.Laws.TaskOwed.{TaskOwed, task_owed}
use Rattle.outputs.specs.CheckOutput.{check_line, check_output}

-- ---- the book program

module _ (text : Bytes) (arguments : List Bytes) where
  abbrev zeros : Bytes
  zeros = replicate program_buffer 0

  -- the program's task, on its own buffer
  abbrev task : WriteOutcome
  task = record {
    answer = book_answer text (budget_of arguments) zeros;
    lent = book_buffer text (budget_of arguments)
        zeros;
  }

  own_task : TaskOwed text (budget_of arguments) zeros task
  own_task = task_owed text (budget_of arguments) zeros task (record { answers = refl; fills = refl })

  -- the machine's state when the task writes, and its book
  abbrev own_state : State
  own_state = (searched_on text (budget_of arguments) (start_of (sheet_of text))).state

  abbrev pub task_book : Bytes
  task_book = book (sheet_of text) own_state

  sheet_there : So (accepted text) → searched_once text (budget_of arguments) ≡ reduced text own_state
  unfolding after_load after_reduce after_search
  sheet_there takes = rw takes

  room : length zeros ≡ 65_536
  unfolding program_buffer
  room = length-replicate {A = ℕ} program_buffer 0

  -- its buffer takes a book of up to 65,536 bytes, and no longer one
  answered : So (accepted text) → length task_book ≤ 65_536 → task.answer.number ≡ 0
  unfolding book_answer
  answered takes short = rw (takes, sheet_there takes) (reduced_write text own_state zeros (omega (arith, room, short)))

  not_taken : So (accepted text) → 65_536 < length task_book
      → (write_answer (searched_once text (budget_of arguments)) zeros).number ≡ 11
  not_taken takes long =
      rw (sheet_there takes)
      (ap (λ (a : WriteAnswer). a.number) (reduced_write_short text own_state zeros (omega (arith, room, long))))

  -- what it prints is what the task brings out
  prints_the_book : So (accepted text) → length task_book ≤ 65_536 → program_output text arguments ≡ brought_out task
  unfolding program_output printed book_answer book_buffer
  prints_the_book takes short =
      let z : (write_answer (searched_once text (budget_of arguments)) zeros).number ≡ 0 = rw takes at
      (answered takes short) in
      rw (takes, eq-eqb _ 0 z)

  -- so a book of up to 65,536 bytes is printed, and is believed
  pub program_believed : So (accepted text) → length task_book ≤ 65_536 → Believed text (program_output text arguments)
  program_believed takes short = rw (prints_the_book takes short) (own_task.believed (answered takes short))

  -- for a longer one 11 is printed
  program_too_long : So (accepted text) → 65_536 < length task_book → program_output text arguments ≡ number_line 11
  unfolding program_output printed
  program_too_long takes long = rw (takes, not_taken takes long)

  -- and for a sheet that is not accepted the number of its refusal
  program_refused : accepted text ≡ false → program_output text arguments ≡ number_line (refusal text)
  unfolding program_output
  program_refused fails = rw fails

-- what is owed of the book program's output for a sheet and a word, at the front of its buffer
pub record BookPrinted (text word before after : Bytes) (count : ℕ) : Type 0 where
  -- what is to be printed and no other byte
  pub written : Written (program_output text (word ∷ [])) before after count
  pub believed : So (accepted text) → length (task_book text (word ∷ [])) ≤ 65_536 → Believed text (take count after)
  pub too_long : So (accepted text) → 65_536 < length (task_book text (word ∷ [])) → take count after ≡ number_line 11
  pub refused : accepted text ≡ false → take count after ≡ number_line (refusal text)

pub book_printed : (text word : Bytes) {before after : Bytes} {count : ℕ} → Written (program_output text (word ∷ []))
    before after count
    → BookPrinted text word before after count
book_printed text word w =
    record {
      written = w;
      believed = λ takes short. rw (front_written w) (program_believed text (word ∷ []) takes short);
      too_long = λ takes long. front_written w ∙ program_too_long text (word ∷ []) takes long;
      refused = λ fails. front_written w ∙ program_refused text (word ∷ []) fails;
    }

-- one person moves one role: a fact about the numbers that the book program prints for two accepted sheets whose books
-- it prints
pub printed_numbers : {text word before after other_text other_word other_before other_After : Bytes}
    {count other_count : ℕ} → BookPrinted text word before after count
    → BookPrinted other_text other_word other_before other_After other_count
    → So (accepted text) → length (task_book text (word ∷ [])) ≤ 65_536
    → So (accepted other_text) → length (task_book other_text (other_word ∷ [])) ≤ 65_536
    → NumbersOneApart text (take count after) other_text (take other_count other_After)
printed_numbers printed other takes short other-takes other-short =
    believed_numbers (printed.believed takes short) (other.believed other-takes other-short)

-- ---- the check program

-- what is owed of the check program's output for a sheet and a book, at the front of its buffer: the line of an
-- answer that is owed
pub record CheckPrinted (text book before after : Bytes) (count : ℕ) : Type 0 where
  pub answer : CheckAnswer
  pub owed : CheckOwed text book answer
  pub written : Written (check_line answer) before after count

pub check_printed : (text book : Bytes) {before after : Bytes} {count : ℕ} → Written (check_output text book) before
    after count
    → CheckPrinted text book before after count
unfolding check_output
check_printed text book w =
    record {
      answer = check text book;
      owed = check_owed text book (check text book) (record { answers = refl });
      written = w;
    }
