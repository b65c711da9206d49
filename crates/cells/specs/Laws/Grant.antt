-- What stands in the list of a sheet's grants: exactly the cells that say yes, each once, by user, then permission.
-- The laws of a row and of some rows are inductions on the cells and on the rows, with the numbers counted from where
-- the part starts. A cell outside the rows says no.
use Rattle.std.specs.Prelude.{ℕ, zero, suc, ◌+◌, ◌≤◌, ◌<◌, ◌≡◌, refl, Bool, false, eqb, length, get_or}
use Rattle.std.proofs.Common.{add-zero, zero-add, arith, sym, ap, ◌∙◌, ⊎_elim, eqb-true, eq-eqb}
use Rattle.std.proofs.Math.Bool.{So}
use Rattle.std.proofs.lemmas.Bool.{false≢true}
use mathlib.Core.List.Memᴰ
use mathlib.Core.List.{List, [], ◌∷◌, Memᴰ}
use Rattle.std.proofs.Math.ListN.{get_or-eq_default}
use Rattle.spec.specs.Sheet.{Sheet, Grant, holds, same_grant, grants_of_row, grants_of_rows, grants}
use Rattle.bits.specs.Truth.{not_both, and_intro, and_left, and_right}
use Rattle.bits.specs.Laws.Below.{below_or_from}
use Rattle.lists.specs.TestLaws.{keep_member, keep_later, keep_cases, member_at}

-- ---- two grants are one

pub same_parts : {g h : Grant} → g.user ≡ h.user → g.permission ≡ h.permission → g ≡ h
same_parts user permission = λ i. record { user = user i; permission = permission i }

pub same_grant_equal : (g h : Grant) → So (same_grant g h) → g ≡ h
same_grant_equal g h e =
    same_parts
    (eqb-true g.user h.user (and_left (eqb g.user h.user) (eqb g.permission h.permission) e))
    (eqb-true g.permission h.permission (and_right (eqb g.user h.user)
    (eqb g.permission h.permission) e))

pub same_grant_refl : (g : Grant) → So (same_grant g g)
same_grant_refl g =
    and_intro (eqb g.user g.user) (eqb g.permission g.permission) (eq-eqb g.user g.user refl)
    (eq-eqb g.permission g.permission refl)

pub equal_same_grant : {g h : Grant} → g ≡ h → So (same_grant g h)
equal_same_grant {g} {h} e = rw e (same_grant_refl h)

-- ---- which grants a row has

-- a grant is a cell that says yes, in a row of user u whose permissions are numbered from p on
pub record InRow (u p : ℕ) (row : List Bool) (g : Grant) : Type 0 where
  pub place : ℕ
  pub user : g.user ≡ u
  pub permission : g.permission ≡ p + place
  pub says_yes : So (get_or row place false)

pub row_has : (u p : ℕ) (row : List Bool) (place : ℕ) → So (get_or row place false)
    → Memᴰ (record { user = u; permission = p + place }) (grants_of_row u p row)
row_has u p [] place e = absurd (false≢true e)
row_has u p (cell ∷ row) zero e =
    Memᴰ.cast (same_parts refl (add-zero p)) (keep_member cell (record { user = u; permission = p })
    (grants_of_row u (suc p) row) e)
row_has u p (cell ∷ row) (suc place) e =
    keep_later cell (record { user = u; permission = p })
    (Memᴰ.cast (same_parts refl (omega arith)) (row_has u (suc p) row place e))

pub row_only : (u p : ℕ) (row : List Bool) {g : Grant} → Memᴰ g (grants_of_row u p row) → InRow u p row g
row_only u p [] m = absurd (Memᴰ.not-nil m)
row_only u p (cell ∷ row) {g} m = ⊎_elim here (λ n. later (row_only u (suc p) row n))
    (keep_cases cell (record { user = u; permission = p }) m)
  where
    here : So cell × (g ≡ record { user = u; permission = p }) → InRow u p (cell ∷ row) g
    here h = record {
      place = 0;
      user = ap (λ x. x.user) h.1;
      permission = ap (λ x. x.permission) h.1
          ∙ sym (add-zero p);
      says_yes = h.0;
    }

    later : InRow u (suc p) row g → InRow u p (cell ∷ row) g
    later r = record {
      place = suc r.place;
      user = r.user;
      permission = omega (arith, r.permission);
      says_yes =
          r.says_yes;
    }

-- ---- which grants some rows have

-- a grant is a cell that says yes, in rows of the users from u on
pub record InRows (u : ℕ) (rows : List (List Bool)) (g : Grant) : Type 0 where
  pub place : ℕ
  pub user : g.user ≡ u + place
  pub says_yes : So (get_or (get_or rows place []) g.permission false)

pub rows_have : (u : ℕ) (rows : List (List Bool)) (place p : ℕ) → So (get_or (get_or rows place []) p false)
    → Memᴰ (record { user = u + place; permission = p }) (grants_of_rows u rows)
rows_have u [] place p e = absurd (false≢true e)
rows_have u (row ∷ rows) zero p e =
    Memᴰ.append_left (grants_of_rows (suc u) rows) (Memᴰ.cast (same_parts (add-zero u) (sym (zero-add p)))
    (row_has u 0 row p e))
rows_have u (row ∷ rows) (suc place) p e =
    Memᴰ.append_right (grants_of_row u 0 row) (Memᴰ.cast (same_parts (omega arith) refl)
    (rows_have (suc u) rows place p e))

pub rows_only : (u : ℕ) (rows : List (List Bool)) {g : Grant} → Memᴰ g (grants_of_rows u rows) → InRows u rows g
rows_only u [] m = absurd (Memᴰ.not-nil m)
rows_only u (row ∷ rows) {g} m =
    ⊎_elim (λ n. here (row_only u 0 row n)) (λ n. later (rows_only (suc u) rows n))
    (Memᴰ.append_cases (grants_of_row u 0 row) m)
  where
    here : InRow u 0 row g → InRows u (row ∷ rows) g
    here r =
        let same : g.permission ≡ r.place = omega (arith, r.permission) in
        record { place = 0; user = omega (arith, r.user); says_yes = rw same r.says_yes }

    later : InRows (suc u) rows g → InRows u (row ∷ rows) g
    later r = record { place = suc r.place; user = omega (arith, r.user); says_yes = r.says_yes }

-- ---- which grants a sheet has

-- a grant stands in the list exactly where its cell says yes
pub grant_held : (sheet : Sheet) {g : Grant} → Memᴰ g (grants sheet) → So (holds sheet g.user g.permission)
grant_held sheet {g} m =
    let r = rows_only 0 sheet.rows m in
    let same : g.user ≡ r.place = omega (arith, r.user) in
    rw same r.says_yes

pub held_grant : (sheet : Sheet) (g : Grant) → So (holds sheet g.user g.permission) → Memᴰ g (grants sheet)
held_grant sheet g e =
    Memᴰ.cast (same_parts (sym (zero-add g.user)) refl) (rows_have 0 sheet.rows g.user g.permission e)

-- ---- a cell that says yes lies in the rows

pub yes_within : (row : List Bool) {place : ℕ} → So (get_or row place false) → place < length row
yes_within row {place} e =
    ⊎_elim (λ l. l) (λ l. absurd (not_both e (get_or-eq_default row false l))) (below_or_from place (length row))

pub held_user_below : (sheet : Sheet) (u p : ℕ) → So (holds sheet u p) → u < length sheet.rows
held_user_below sheet u p e = ⊎_elim (λ l. l) outside (below_or_from u (length sheet.rows))
  where
    outside : length sheet.rows ≤ u → u < length sheet.rows
    outside l = absurd (false≢true (rw (get_or-eq_default sheet.rows [] l) at e))

pub held_permission_below : (sheet : Sheet) (u p width : ℕ) → ((row : List Bool) → Memᴰ row sheet.rows
    → length row ≡ width)
    → So (holds sheet u p) → p < width
held_permission_below sheet u p width even e =
    rw (even (get_or sheet.rows u []) (member_at sheet.rows u [] (held_user_below sheet u p e))) at
    (yes_within (get_or sheet.rows u []) e)
