-- One person moves one role: every book that a session brings out is believed, so that it prints the smallest role
-- count of its sheet where it says so; and one change in a sheet moves a smallest role count by at most 1.
use Rattle.std.specs.Prelude.{◌≡◌, ◌∷◌}
use Rattle.std.proofs.Common.{sym, ◌∙◌}
use Rattle.std.proofs.Math.Option.{some}
use Rattle.spec.specs.Text.{Bytes}
use Rattle.spec.specs.Sequence.{write}
use Rattle.spec.specs.Demands.{Believed}
use Rattle.spec.specs.OneChange.{BroughtOut, NumbersOneApart, OneMovesOne}
use Rattle.right.specs.PrintedCounts.{prints_one, form_prints}
use Rattle.one_change.specs.OneLine.{line_moved}
use Rattle.one_change.proofs.OneApart.{column_is_a_line, column_moved, by_lines, undone}
use Rattle.one_change.proofs.OneApart.{smallest_is_one, one_change_one_apart}
use Rattle.minimality.specs.EverySheet.{even_has_smallest}
use Rattle.demands.specs.Demand3.{demand_3}
use Rattle.demands.specs.OneMoves.{believed_smallest, bound_but_one}

-- ---- two books

pub believed_numbers : {text book other_text other_book : Bytes} → Believed text book → Believed other_text other_book
    → NumbersOneApart text book other_text other_book
believed_numbers believed other =
    record {
      counts = λ change m n printed other-printed.
          one_change_one_apart _ _ change m n (believed_smallest believed m printed)
          (believed_smallest other n other-printed);
      bounds = λ change m bound n other_bound word other_word prints other-prints. (
        bound_but_one other believed (undone (by_lines change)) other-prints prints,
        bound_but_one believed other (by_lines change) prints other-prints,
      );
    }

-- ---- sessions

-- every book that a session brings out is believed
pub brought_out_believed : {text book : Bytes} → BroughtOut text book → Believed text book
brought_out_believed {text} {book} out =
    let owed = (demand_3.owed (record { call = write out.buffer; outcome = out.written } ∷ out.earlier)
    out.session out.led).0.book out.answered in
    let last : some text ≡ some owed.text = sym out.last ∙ owed.last in
    let same : text ≡ owed.text = cc in
    rw (out.book_is, same) owed.believed

pub one_moves_one : OneMovesOne
one_moves_one =
    record {
      exactly_one = λ text sheet keeps.
          let smallest =
          even_has_smallest sheet (record { a_row_each = keeps.a_row_each; even_rows = keeps.even_rows }) in
          (smallest.0, smallest.1, λ m other. smallest_is_one other smallest.1);
      one_apart = one_change_one_apart;
      others_stay = λ sheet other u only roles multiplies.
          let m = line_moved only multiplies in (m.after, m.product, m.moved);
      others_stay_by_column = λ sheet other p only roles multiplies.
          let m = column_moved sheet other (column_is_a_line only) multiplies in (m.after, m.product, m.moved);
      prints_some = λ text book out.
          let believed = brought_out_believed out in (
            believed.says.count,
            believed.says.bound,
            believed.says.standing,
            form_prints believed.right.of_form,
          );
      prints_one = λ book count bound word prints other_count other_bound other_word other.
          let same = prints_one prints other in (same.counts, same.bounds, same.words);
      prints_smallest = λ text book out. believed_smallest (brought_out_believed out);
      numbers = λ text book other_text other_book out other-out.
          believed_numbers (brought_out_believed out) (brought_out_believed other-out);
    }
