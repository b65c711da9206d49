-- Demand 2. A load answers 0 exactly where its sheet keeps the rules, and the checker answers 0 exactly where its
-- sheet keeps the rules and its book is right for that sheet; the checker answers its counts. What a writing brings
-- out is owed by demand 3.
use Rattle.std.proofs.Common.{sym, ◌∙◌, eqb-true, eq-eqb}
use Rattle.std.specs.Prelude.{◌∷◌}
use Rattle.spec.specs.Refusal.{refusal}
use Rattle.spec.specs.Sequence.{write}
use Rattle.spec.specs.Demands.{Demand2}
use Rattle.rules.specs.Accepted.{accepts_sheets, reads_sheets}
use Rattle.right.specs.Exact.{accepts_books, answers_counts}
use Rattle.demands.specs.Demand1.{load_number_is_refusal}
use Rattle.demands.specs.Demand3.{demand_3}

pub demand_2 : Demand2
demand_2 =
    record {
      accepts_sheets = λ text. (
        λ e. (accepts_sheets text).0 (eq-eqb (refusal text) 0 (sym (load_number_is_refusal text) ∙ e)),
        λ kept. load_number_is_refusal text ∙ eqb-true (refusal text) 0 ((accepts_sheets text).1 kept),
      );
      reads_sheets = reads_sheets;
      accepts_books = accepts_books;
      answers_counts = answers_counts;
      own_books = λ buffer written earlier session led e.
          let owed = (demand_3.owed (record { call = write buffer; outcome = written } ∷ earlier) session led).0.book
          e in
          (owed.text, owed.believed.says, owed.last, owed.believed.right, owed.believed.written);
    }
