-- The grants of a sheet are as many as the fields after the user names that are `1`: each such field adds one grant
-- to those of its row. Assumes nothing.
use Rattle.std.specs.Prelude.{ℕ, suc, ◌+◌, ◌≡◌, refl, Bool, true, false, length}
use Rattle.std.proofs.Common.{arith, ap, ◌∙◌, length-append}
use mathlib.Core.List.{List, [], ◌∷◌, map, tail}
use Rattle.spec.specs.Vocabulary.{keep}
use Rattle.spec.specs.Text.{Line}
use Rattle.spec.specs.Sheet.{is_one, grants_of_row, grants_of_rows}
use Rattle.bits.specs.Counting.{one_if}
use Rattle.refusal.specs.Cells.{ones_in}
use Rattle.refusal.specs.Body.{ones_after_names}

length_keep : {A : Type 0} (b : Bool) (a : A) (rest : List A) → length (keep b a rest) ≡ one_if b + length rest
length_keep true a rest = omega arith
length_keep false a rest = omega arith

row_ones : (u p : ℕ) (line : Line) → length (grants_of_row u p (map is_one line)) ≡ ones_in line
row_ones u p [] = refl
row_ones u p (field ∷ rest) =
    length_keep (is_one field) (record { user = u; permission = p }) (grants_of_row u (suc p) (map is_one rest))
    ∙ ap (λ (n : ℕ). one_if (is_one field) + n) (row_ones u (suc p) rest)

pub rows_ones : (u : ℕ) (lines : List Line)
    → length (grants_of_rows u (map (λ line. map is_one (tail line)) lines)) ≡ ones_after_names lines
rows_ones u [] = refl
rows_ones u (line ∷ rest) =
    length-append (grants_of_row u 0 (map is_one (tail line)))
    (grants_of_rows (suc u) (map (λ next. map is_one (tail next)) rest))
    ∙ rw (row_ones u 0 (tail line), rows_ones (suc u) rest)
