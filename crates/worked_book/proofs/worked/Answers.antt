-- `worked_book::worked`: the two cells of the witness are cells of three users and three permissions, by computation.
use Rattle.std.proofs.Common.{◌+◌, arith, refl, List, [], ◌∷◌, get_or}
use borrow.Author.Tests.{ltb-true}
use lib.Dec.{ltb}
use Rattle.std.specs.Prelude.{ℕ}
use Rattle.spec.specs.Limits.{role_limit, grant_limit}
use Rattle.spec.specs.Vocabulary.{every_below}
use Rattle.spec.specs.Sheet.{sheet_of, sheet_of_lines}
use Rattle.bits.specs.Laws.Below.{every_below_elim}
use Rattle.cell_rows.specs.Rows.{row_words, row_bits}
use Rattle.cell_rows.specs.CellPlaces.{grant_of}
use Rattle.worked_book.proofs.worked.Goals as goal

-- the cell of ann and `rec`, and that of bo and `map`
abbrev cells : List ℕ
cells = 0 ∷ (row_bits + 2) ∷ []

pub print-requires : goal.print-requires
unfolding role_limit grant_limit row_words row_bits every_below sheet_of sheet_of_lines
print-requires c = (
  omega arith,
  record {
    few = omega arith;
    user_below = λ i l. ltb-true _ _ (every_below_elim 2 (λ j. ltb (grant_of (get_or cells j 0)).user 3) refl l);
    permission_below = λ i l.
        ltb-true _ _ (every_below_elim 2 (λ j. ltb (grant_of (get_or cells j 0)).permission 3) refl l);
  },
)
