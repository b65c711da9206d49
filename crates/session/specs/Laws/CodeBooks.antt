-- Books that calls of the code brought out. Each is a book that a session brought out, since a run of the code is a
-- sequence of demand 3; so what is promised of the numbers that such books print holds of these, whichever way the
-- calls were made.
use Rattle.std.specs.Prelude.{◌≡◌, List, ◌∷◌}
use Rattle.std.proofs.Math.Option.{some}
use Rattle.spec.specs.Text.{Bytes}
use Rattle.spec.specs.Sequence.{write, WriteOutcome, Event, calls, last_accepted, brought_out}
use Rattle.spec.specs.OneChange.{BroughtOut, NumbersOneApart}
use Rattle.demands.proofs.OneMoves.{one_moves_one}
use Rattle.session.specs.CodeSession.{view}
use Rattle.session.specs.Laws.CodeSequence.{Calling, Ran, Tied, ran_led}
use Rattle.session.specs.declared.Session.{Session as CodeSession}

-- calls of the code, made in this way, brought out this book for this sheet: a run of them ends with an accepted
-- writing that brought out the book, and before it the last accepted load was this sheet's
pub record BroughtOutBy (calling : Calling) (text book : Bytes) : Type 1 where
  pub earlier : List Event
  pub after : CodeSession
  pub buffer : Bytes
  pub written : WriteOutcome
  pub ran : Ran calling (record { call = write buffer; outcome = written } ∷ earlier) after
  pub last : last_accepted (calls earlier) ≡ some text
  pub answered : written.answer.number ≡ 0
  pub book_is : book ≡ brought_out written

-- what is promised of the numbers printed, of any two runs, one made in this way and one in that
abbrev pub NumbersOf : Calling → Calling → Type 1
NumbersOf calling another =
    (text book other_text other_book : Bytes) → BroughtOutBy calling text book
    → BroughtOutBy another other_text other_book
    → NumbersOneApart text book other_text other_book

by_a_session : {calling : Calling} → Tied calling → {text book : Bytes} → BroughtOutBy calling text book
    → BroughtOut text book
by_a_session tied out =
    record {
      earlier = out.earlier;
      session = view out.after;
      buffer = out.buffer;
      written = out.written;
      led = ran_led tied (record { call = write out.buffer; outcome = out.written } ∷ out.earlier) out.after
          out.ran;
      last = out.last;
      answered = out.answered;
      book_is = out.book_is;
    }

pub tied_numbers : {calling another : Calling} → Tied calling → Tied another → NumbersOf calling another
tied_numbers tied other-tied text book other_text other_book out other-out =
    one_moves_one.numbers text book other_text other_book (by_a_session tied out) (by_a_session other-tied other-out)
