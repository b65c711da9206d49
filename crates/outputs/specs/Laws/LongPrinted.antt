-- What is owed of what the long search prints: the book of an accepted sheet, whatever its length, after one search of
-- as many steps as all its searches have together, and that book is believed; else the number of the refusal.
use Rattle.std.specs.Prelude.{ℕ, ◌*◌, ◌≤◌, ◌≡◌, false, List, [], ◌∷◌, length, take, replicate}
use native.Mathlib.Omega.{arith}
use Rattle.std.proofs.Math.Path.{ap}
use Rattle.std.proofs.Common.{◌∙◌}
use Rattle.std.proofs.Math.Bool.{So}
use Rattle.std.proofs.Math.ListN.{length-replicate}
use Rattle.spec.specs.Limits.{round_budget, book_limit}
use Rattle.spec.specs.Text.{Bytes}
use Rattle.spec.specs.Sheet.{sheet_of}
use Rattle.spec.specs.Book.{book}
use Rattle.spec.specs.Session.{reduced}
use Rattle.spec.specs.Refusal.{refusal, accepted}
use Rattle.spec.specs.Calls.{after_load, after_reduce}
use Rattle.spec.specs.Program.{number_line}
use Rattle.spec.specs.LongSearch.{rounds_of, after_rounds, opened, long_search_output}
use Rattle.spec.specs.Sequence.{reached}
use Rattle.spec.specs.Demands.{Believed}
use Rattle.text.specs.Written.{Written}
use Rattle.book_lines.specs.Laws.LineWritten.{front_written}
use Rattle.demands.specs.Answers.{reduced_write, reduced_book}
use Rattle.demands.specs.Believed.{book_believed}
use Rattle.demands.specs.Reached.{reached_at_first}
use Rattle.demands.specs.Rounds.{rounds_are_one_search}
use Rattle.outputs.specs.Laws.Output.{printed_book}

module _ (text : Bytes) (arguments : List Bytes) where
  -- the steps that the searches have together, if none settles before
  abbrev pub steps_in_all : ℕ
  steps_in_all = rounds_of arguments * round_budget

  -- the book after one search of so many steps
  abbrev pub one_search_book : Bytes
  one_search_book = book (sheet_of text) (reached text steps_in_all)

  -- the searches of an accepted sheet are together that one
  searched_as_one : So (accepted text)
      → after_rounds round_budget (rounds_of arguments) (opened text) ≡ reduced text
      (reached text steps_in_all)
  unfolding after_load after_reduce
  searched_as_one takes =
      rw (takes, ← reached_at_first text)
      (rounds_are_one_search text round_budget (rounds_of arguments) 0
      ∙ ap (λ (n : ℕ). reduced text (reached text n)) (omega arith))

  abbrev zeros : Bytes
  zeros = replicate book_limit 0

  -- its book has room in the buffer
  book_fits : So (accepted text) → length one_search_book ≤ length zeros
  unfolding book_limit
  book_fits takes =
      omega (
        arith,
        (book_believed text takes steps_in_all).right.of_form.short,
        length-replicate {A = ℕ} book_limit 0,
      )

  -- so it is printed, whatever its length
  pub search_prints_the_book : So (accepted text) → long_search_output text arguments ≡ one_search_book
  unfolding long_search_output
  search_prints_the_book takes =
      rw (takes, searched_as_one takes)
      (printed_book (reduced text (reached text steps_in_all)) zeros
      (reduced_write text (reached text steps_in_all) zeros (book_fits takes))
      ∙ reduced_book text (reached text steps_in_all))

  pub search_believed : So (accepted text) → Believed text (long_search_output text arguments)
  search_believed takes = rw (search_prints_the_book takes) (book_believed text takes steps_in_all)

  search_refused : accepted text ≡ false → long_search_output text arguments ≡ number_line (refusal text)
  unfolding long_search_output
  search_refused fails = rw fails

-- what is owed of the long search's output for a sheet and a word, at the front of its buffer
pub record SearchPrinted (text word before after : Bytes) (count : ℕ) : Type 0 where
  -- what is to be printed and no other byte
  pub written : Written (long_search_output text (word ∷ [])) before after count
  -- the book after one search of all steps, which is believed; no book is too long
  pub one_search : So (accepted text) → take count after ≡ one_search_book text (word ∷ [])
  pub believed : So (accepted text) → Believed text (take count after)
  pub refused : accepted text ≡ false → take count after ≡ number_line (refusal text)

pub search_printed : (text word : Bytes) {before after : Bytes} {count : ℕ}
    → Written (long_search_output text (word ∷ []))
    before after count
    → SearchPrinted text word before after count
search_printed text word w =
    record {
      written = w;
      one_search = λ takes. front_written w ∙ search_prints_the_book text (word ∷ []) takes;
      believed = λ takes. rw (front_written w) (search_believed text (word ∷ []) takes);
      refused = λ fails. front_written w ∙ search_refused text (word ∷ []) fails;
    }
