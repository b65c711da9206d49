-- A sheet with one user more, who is the last: permissions and earlier users stay as they are, and the last user's
-- grants come after all others. What stands behind a list changes nothing within it. Assumes nothing.
use Rattle.std.specs.Prelude.{ℕ, suc, ◌+◌, ◌<◌, ◌≡◌, Bool, false, List, [], ◌∷◌, ◌++◌, length, get_or}
use Rattle.std.proofs.Common.{add-zero, zero-add, add-suc, suc-add, arith, sym, ap, ◌∙◌, append-nil, append_assoc, length-append}
use Rattle.std.proofs.Math.ListN.{get_or-append}
use Rattle.std.proofs.Math.Seq.{get_or-append_seam}
use Rattle.spec.specs.Text.{Bytes}
use Rattle.spec.specs.Sheet.{Sheet, user_count, user_name, holds, grants_of_row, grants_of_rows, grants}
use Rattle.spec.specs.Admitted.{with_user}

rows_grants : (u : ℕ) (rows : List (List Bool)) (row : List Bool)
    → grants_of_rows u (rows ++ row ∷ []) ≡ grants_of_rows u rows ++ grants_of_row (u + length rows) 0 row
rows_grants u [] row = rw (add-zero u) (append-nil (grants_of_row u 0 row))
rows_grants u (first ∷ later) row =
    ap (λ rest. grants_of_row u 0 first ++ rest) (rows_grants (suc u) later row)
    ∙ rw (suc-add u (length later), add-suc u (length later))
    (sym (append_assoc (grants_of_row u 0 first) (grants_of_rows (suc u) later)
    (grants_of_row (suc (u + length later)) 0 row)))

module _ (sheet : Sheet) (name : Bytes) (row : List Bool) where
  pub user_count_with : user_count (with_user sheet name row) ≡ suc (user_count sheet)
  user_count_with = length-append sheet.users (name ∷ []) ∙ omega arith

  pub earlier_name : (u : ℕ) → u < user_count sheet → user_name (with_user sheet name row) u ≡ user_name sheet u
  earlier_name u h = get_or-append sheet.users (name ∷ []) [] u h

  pub last_name : user_name (with_user sheet name row) (user_count sheet) ≡ name
  last_name = get_or-append_seam sheet.users name [] []

module _ (sheet : Sheet) (name : Bytes) (row : List Bool) (a_row_each : length sheet.rows ≡ user_count sheet) where
  pub earlier_holds : (u p : ℕ) → u < user_count sheet → holds (with_user sheet name row) u p ≡ holds sheet u p
  earlier_holds u p h =
      ap (λ (cells : List Bool). get_or cells p false) (get_or-append sheet.rows (row ∷ []) [] u (omega arith))

  pub last_holds : (p : ℕ) → holds (with_user sheet name row) (user_count sheet) p ≡ get_or row p false
  last_holds p =
      rw (← a_row_each) (ap (λ (cells : List Bool). get_or cells p false) (get_or-append_seam sheet.rows row [] []))

  pub grants_with : grants (with_user sheet name row) ≡ grants sheet ++ grants_of_row (user_count sheet) 0 row
  grants_with = rw (← a_row_each) (rows_grants 0 sheet.rows row ∙ rw (zero-add (length sheet.rows)))
