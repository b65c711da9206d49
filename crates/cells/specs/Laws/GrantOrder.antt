-- The grants stand by user, then permission, so no grant stands twice. A row's grants have one user and rising
-- permissions; the grants of later rows have greater users.
use Rattle.std.specs.Prelude.{ℕ, suc, ◌<◌, ◌≡◌, ◌⊎◌, Bool, false, List, [], ◌∷◌, length, get_or}
use Rattle.std.proofs.Common.{arith, sym, ap, inl, inr}
use Rattle.spec.specs.Sheet.{Sheet, Grant, same_grant, grants_of_row, grants_of_rows, grants}
use Rattle.bits.specs.Truth.{fails_unless}
use Rattle.lists.specs.Ordered.{Ordered, ordered_places, ordered_append, ordered_keep}
use Rattle.cells.specs.Laws.Grant.{same_grant_equal, row_only, rows_only}

-- g stands before h by user, then permission
abbrev pub Before : Grant → Grant → Type 0
Before g h = (g.user < h.user) ⊎ ((g.user ≡ h.user) × (g.permission < h.permission))

pub before_differs : (g h : Grant) → Before g h → same_grant g h ≡ false
before_differs g h b = fails_unless (same_grant g h) (λ e. clash (same_grant_equal g h e) b)
  where
    clash : g ≡ h → Before g h → ⊥
    clash e (inl l) = omega (arith, ap (λ x. x.user) e)
    clash e (inr l) = omega (arith, ap (λ x. x.permission) e)

row_ordered : (u p : ℕ) (row : List Bool) → Ordered Before (grants_of_row u p row)
row_ordered u p [] = tt
row_ordered u p (cell ∷ row) =
    ordered_keep Before cell (record { user = u; permission = p }) (grants_of_row u (suc p) row)
    (λ h m. let r = row_only u (suc p) row m in inr (sym r.user, omega (arith, r.permission)))
    (row_ordered u (suc p) row)

rows_ordered : (u : ℕ) (rows : List (List Bool)) → Ordered Before (grants_of_rows u rows)
rows_ordered u [] = tt
rows_ordered u (row ∷ rows) =
    ordered_append Before (grants_of_row u 0 row) (grants_of_rows (suc u) rows) (row_ordered u 0 row)
    (rows_ordered (suc u) rows)
    (λ g h m n. let r = row_only u 0 row m in let s = rows_only (suc u) rows n in inl (omega (arith, r.user, s.user)))

-- the grants of a sheet are in order
pub grants_ordered : (sheet : Sheet) → Ordered Before (grants sheet)
grants_ordered sheet = rows_ordered 0 sheet.rows

-- grants in order are all different
pub ordered_grants_differ : (l : List Grant) → Ordered Before l → (i j : ℕ) (d : Grant) → i < j → j < length l
    → same_grant (get_or l i d) (get_or l j d) ≡ false
ordered_grants_differ l o i j d k m = before_differs (get_or l i d) (get_or l j d) (ordered_places Before l o i j d k m)
