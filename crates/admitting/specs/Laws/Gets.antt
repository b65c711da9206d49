-- What the rows say of a newcomer is what the sheet and the role set say: a role's row is within the newcomer's exactly
-- where they hold all of its permissions, since past the sheet's permissions no role's row has anything. The product of
-- one row, that of the roles got, has the permissions of these roles; what it lacks of the newcomer's row is left over.
use Rattle.std.specs.Prelude.{ℕ, ◌%◌, ◌≤◌, ◌<◌, ◌≡◌, refl, Bool, true, false, ◌&&◌, List, [], get_or}
use Rattle.std.proofs.Common.{zero-mul, arith, ◌∙◌, ⊎_elim, lt-ltb}
use Rattle.std.proofs.Math.Path.{sym, ap}
use Rattle.std.proofs.Math.Bool.{So, not, not-not}
use Rattle.std.proofs.Math.ListN.{get_or-eq_default}
use Rattle.spec.specs.Vocabulary.{every_below}
use Rattle.spec.specs.Sheet.{Sheet, permission_count, holds}
use Rattle.spec.specs.Newcomer.{gets, left_over, some_left_over}
use Rattle.bits.specs.Bit.{bit, word_bits}
use Rattle.bits.specs.Truth.{implies, same_truth}
use Rattle.bits.specs.Laws.Below.{below_or_from, every_below_intro, every_below_elim}
use Rattle.cell_rows.specs.Rows.{row_words, row_bits, cell}
use Rattle.cell_rows.specs.CellPlaces.{marked}
use Rattle.cell_rows.specs.RowHeld.{held_at, holds_row}
use Rattle.cell_rows.specs.Laws.Width.{permissions_fit}
use Rattle.product.specs.RowAfter.{roles_in, RowAfter}
use Rattle.product.specs.Laws.OrOverRoles.{same_opens}
use Rattle.admitting.specs.RolesGot.{RolesGot}
use Rattle.admitting.specs.LeftRow.{not_taken}
use Rattle.admitting.specs.RowsAdmitted.{AdmitReady}
use Rattle.admitting.specs.Laws.LeftOver.{theirs, left_over_by_product}

-- the only row of a row of words
one_row : (row : List ℕ) (p : ℕ) → cell row 0 p ≡ marked row p
one_row row p = ap (λ (k : ℕ). bit (get_or row k 0) (p % word_bits)) (omega (arith, zero-mul row_words))

implies_by_and : (a b : Bool) → implies a b ≡ not (a && not b)
implies_by_and true b = sym (not-not b)
implies_by_and false b = refl

-- what is asked of every place of a row, where the places past an end pass
past_end : (n end : ℕ) (f g : ℕ → Bool) → end ≤ n → ((p : ℕ) → p < end → f p ≡ g p)
    → ((p : ℕ) → end ≤ p → p < n → So (f p))
    → every_below n f ≡ every_below end g
past_end n end f g few same past =
    same_truth (every_below n f) (every_below end g)
    (λ all. every_below_intro end g (λ p l. sym (same p l) ∙ every_below_elim n f all {i = p} (omega arith)))
    (λ all. every_below_intro n f (λ p l. ⊎_elim (λ b. same p b ∙ every_below_elim end g all b) (λ b. past p b l)
    (below_or_from p end)))

module _ {sheet : Sheet} {rows : List ℕ} {u : ℕ} {has gives : List ℕ} {roles : ℕ}
    (ready : AdmitReady sheet rows u has gives roles) where
  few_permissions : permission_count sheet ≤ row_bits
  few_permissions = omega (arith, ready.lawful.few_permissions, permissions_fit)

  -- nothing is held past the permissions
  nothing_held : (p : ℕ) → permission_count sheet ≤ p → holds sheet u p ≡ false
  nothing_held p h =
      get_or-eq_default (get_or sheet.rows u []) false
      (let e = ready.lawful.a_cell_each u ready.user in omega arith)

  gets_by_row : (r : ℕ) → r < roles → holds_row rows gives u r ≡ gets sheet u (roles_in has gives roles) r
  gets_by_row r l =
      past_end row_bits (permission_count sheet) (held_at rows gives u r)
      (λ p. implies (cell gives r p) (holds sheet u p)) few_permissions
      (λ p k. ap (implies (cell gives r p)) (ready.shown.shows u p (omega (arith, few_permissions))))
      (λ p k m. rw (ready.no_permission r p l k m))

  module _ {got taken : List ℕ} (of : RolesGot rows gives u roles got) (after : RowAfter got gives 0 roles taken) where
    pub got_by_row : (r : ℕ) → r < roles → marked got r ≡ gets sheet u (roles_in has gives roles) r
    got_by_row r l = of.shows r ∙ rw (lt-ltb r roles l) (gets_by_row r l)

    pub left_by_row : (p : ℕ) → p < row_bits → not_taken rows u taken p ≡ left_over sheet u (roles_in has gives roles) p
    left_by_row p l =
        rw (ready.shown.shows u p l, after.cells roles p l)
        (ap (λ (b : Bool). holds sheet u p && not b)
        (same_opens (roles_in got gives roles) (theirs sheet u (roles_in has gives roles)) 0 p roles
        (λ r k. ap (λ (b : Bool). b && cell gives r p) (one_row got r ∙ got_by_row r k)))
        ∙ sym (left_over_by_product sheet u (roles_in has gives roles) p))

    -- nothing is left over exactly where the roles got hold all that the newcomer holds
    pub none_left_by_row : holds_row taken rows 0 u ≡ not (some_left_over sheet u (roles_in has gives roles))
    unfolding some_left_over
    none_left_by_row =
        past_end row_bits (permission_count sheet) (held_at taken rows 0 u)
        (λ p. not (left_over sheet u (roles_in has gives roles) p)) few_permissions
        (λ p l. within p (omega (arith, few_permissions)))
        (λ p l m. rw (ready.shown.shows u p m ∙ nothing_held p l))
        ∙ sym (not-not (every_below (permission_count sheet)
        (λ p. not (left_over sheet u (roles_in has gives roles) p))))
      where
        within : (p : ℕ) → p < row_bits
            → held_at taken rows 0 u p ≡ not (left_over sheet u (roles_in has gives roles) p)
        within p l =
            ap (implies (cell rows u p)) (one_row taken p) ∙ implies_by_and (cell rows u p) (marked taken p)
            ∙ ap not (left_by_row p l)
