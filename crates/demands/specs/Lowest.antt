-- Demand 1 as document 01 has it: for its calls the first number that applies is the lowest. The numbers of a load, a
-- search and a check rise. Those of a writing do not, since 16 stands before 11; but where 16 does not apply it can be
-- left out, and the others rise.
use Rattle.std.specs.Prelude.{◌≡◌, refl, false, List, [], ◌∷◌, ◌++◌, ltb, length}
use Rattle.std.proofs.Common.{ap, ◌∙◌}
use Rattle.spec.specs.Text.{Bytes}
use Rattle.spec.specs.Session.{Session, session_book}
use Rattle.spec.specs.Refusal.{Cause, first_number, sheet_causes, lacks_sheet, not_reduced, search_causes, write_causes}
use Rattle.spec.specs.Calls.{WriteAnswer, Writes}
use Rattle.spec.specs.Demands.{LowestThatApplies, FirstIsLowest}
use Rattle.rules.specs.CauseLaws.{first_that_applies, first_is_lowest, lowest_with, sheet_causes_rise}
use Rattle.right.specs.CheckOwed.{checks_lowest}
use Rattle.demands.specs.Demand1.{write_number, demand_1}

-- the causes of a writing before 16, and after it
abbrev sheet_first : Session → List Cause
sheet_first before = record { number = 10; applies = lacks_sheet before } ∷ []

abbrev buffer_last : Session → Bytes → List Cause
buffer_last before buffer =
    record { number = 11; applies = ltb (length buffer) (length (session_book before)) } ∷ []

writes_lowest : (before after : Session) (buffer lent : Bytes) (answer : WriteAnswer) → Writes before buffer answer
    lent after
    → not_reduced before ≡ false → LowestThatApplies (write_causes before buffer) answer.number
unfolding write_causes
writes_lowest before after buffer lent answer h applies-not =
    let others : List Cause = sheet_first before ++ buffer_last before buffer in
    let number : answer.number ≡ first_number others =
    ap (λ (a : WriteAnswer). a.number) h.answers ∙ (write_number before buffer ∙ rw applies-not) in
    rw number
    (lowest_with (sheet_first before) (record { number = 16; applies = not_reduced before }) (buffer_last before buffer)
    (first_number others) applies-not
    (first_is_lowest others (first_number others) refl (first_that_applies others refl)))

pub demand_1_lowest : FirstIsLowest
demand_1_lowest =
    record {
      loads = λ before after text answer h.
          first_is_lowest (sheet_causes text) answer.number (sheet_causes_rise text)
          (demand_1.loads before after text answer h).first;
      searches = λ before after budget answer h.
          first_is_lowest (search_causes before) answer.number refl
          (demand_1.searches before after budget answer h).first;
      writes = writes_lowest;
      checks = checks_lowest;
    }
