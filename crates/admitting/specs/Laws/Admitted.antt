-- What is left is the role set with the newcomer in it: their row has the roles got, and with a new role
-- that one too; the row of the new role is what is left over. All other rows stay, and no earlier user has the new
-- role.
use Rattle.std.specs.Prelude.{ℕ, suc, ◌+◌, ◌≤◌, ◌<◌, ◌≡◌, refl, Bool, false, not, List, eqb, leb}
use Rattle.std.proofs.Math.Numerals.{add-one}
use Rattle.std.proofs.Common.{arith, sym, ap, ◌∙◌}
use Rattle.std.proofs.Math.Logic.{⊎_elim}
use Rattle.std.proofs.Math.Bool.{So, cond, and-false, or-false, or-true, not-not}
use borrow.Author.Tests.{eq-eqb, ne_eqb, eqb-false, lt-ltb, le-ltb, le-leb, lt-leb}
use Rattle.spec.specs.Limits.{role_limit}
use Rattle.spec.specs.Sheet.{Sheet}
use Rattle.spec.specs.Newcomer.{gets, left_over, some_left_over, roles_admitting}
use Rattle.bits.specs.Truth.{passes_or_fails, and_intro, not_fails}
use Rattle.bits.specs.Laws.Below.{last_or_below}
use Rattle.cell_rows.specs.Rows.{row_bits, cell}
use Rattle.cell_rows.specs.CellPlaces.{marked}
use Rattle.cell_rows.specs.RowHeld.{holds_row}
use Rattle.cell_rows.specs.Laws.Width.{roles_fit}
use Rattle.cells.specs.MadeCells.{MadeCells}
use Rattle.product.specs.RowAfter.{roles_in, RowAfter}
use Rattle.admitting.specs.RolesGot.{RolesGot}
use Rattle.admitting.specs.LeftRow.{not_taken}
use Rattle.admitting.specs.RowPut.{RowPut, NewRolePut}
use Rattle.admitting.specs.RowsAdmitted.{AdmitReady, no_room, AdmittedAt}
use Rattle.admitting.specs.Laws.Gets.{got_by_row, left_by_row, none_left_by_row}

module _ {sheet : Sheet} {rows : List ℕ} {u : ℕ} {has gives : List ℕ} {roles : ℕ} {got taken : List ℕ}
    (ready : AdmitReady sheet rows u has gives roles) (few : roles ≤ role_limit)
    (of : RolesGot rows gives u roles got) (after : RowAfter got gives 0 roles taken) where
  none_left : So (holds_row taken rows 0 u) → some_left_over sheet u (roles_in has gives roles) ≡ false
  none_left all = not_fails (some_left_over sheet u (roles_in has gives roles)) (sym (none_left_by_row ready of after)
      ∙ all)

  some_left : holds_row taken rows 0 u ≡ false → So (some_left_over sheet u (roles_in has gives roles))
  some_left f =
      sym (not-not (some_left_over sheet u (roles_in has gives roles)))
      ∙ ap not (sym (none_left_by_row ready of after) ∙ f)

  -- nothing is left over
  pub admitted_no_role : {has_then : List ℕ} → So (holds_row taken rows 0 u) → RowPut has has_then u got
      → AdmittedAt sheet u (roles_in has gives roles) has_then gives roles
  unfolding roles_admitting
  admitted_no_role {has_then} all put =
      record {
        room = rw (none_left all);
        at = rw (none_left all) (record {
          rows = record {
            few = omega (arith, roles_fit);
            has_shown = λ v r k l.
                put.shows v r (omega (arith, roles_fit))
                ∙ rw (lt-ltb r roles l)
                (ap (λ (b : Bool). cond (eqb v u) b (cell has v r)) (got_by_row ready of after r l));
            gives_shown = λ r p k l. rw (lt-ltb r roles k);
          };
          total = refl;
        });
      }

  -- there is no room for a new role
  pub no_room_left : holds_row taken rows 0 u ≡ false → role_limit ≤ roles
      → So (no_room sheet u (roles_in has gives roles))
  no_room_left f full =
      and_intro (some_left_over sheet u (roles_in has gives roles)) (leb role_limit roles) (some_left f)
      (le-leb role_limit roles full)

  -- what is left over is the new role
  module _ {left has_then gives_then : List ℕ} (room : roles < role_limit)
      (made : MadeCells (not_taken rows u taken) row_bits left)
      (put : NewRolePut has has_then gives gives_then u roles got left) where
    has_earlier : (v r : ℕ) → r < roles
        → cell has_then v r ≡ cond (eqb v u) (gets sheet u (roles_in has gives roles) r) (cell has v r)
    has_earlier v r l =
        put.user_row.shows v r (omega (arith, roles_fit))
        ∙ ap (λ (b : Bool). cond (eqb v u) b (cell has v r))
        (put.one_more.shows r ∙ rw (ne_eqb r roles (omega arith)) (or-false (marked got r))
        ∙ got_by_row ready of after r l)

    has_new : (v : ℕ) → v < suc u → cell has_then v roles ≡ eqb v u
    has_new v l =
        let there : So (marked put.wider roles) =
        put.one_more.shows roles ∙ rw (eq-eqb roles roles refl) (or-true (marked got roles)) in
        put.user_row.shows v roles (omega (arith, roles_fit))
        ∙ ap (λ (b : Bool). cond (eqb v u) b (cell has v roles)) there
        ∙ ⊎_elim (λ e. rw e) (λ f. rw f (ready.no_role v roles (let other = eqb-false v u f in omega arith)
        (omega arith) (omega (arith, roles_fit)))) (passes_or_fails (eqb v u))

    gives_earlier : (r p : ℕ) → r < roles → p < row_bits → cell gives_then r p ≡ cell gives r p
    gives_earlier r p l k = put.role_row.shows r p k ∙ rw (ne_eqb r roles (omega arith))

    gives_new : (p : ℕ) → p < row_bits → cell gives_then roles p ≡ left_over sheet u (roles_in has gives roles) p
    gives_new p k =
        put.role_row.shows roles p k
        ∙ rw (eq-eqb roles roles refl) (made.inside p k ∙ left_by_row ready of after p k)

    pub admitted_new_role : holds_row taken rows 0 u ≡ false
        → AdmittedAt sheet u (roles_in has gives roles) has_then gives_then (roles + 1)
    unfolding roles_admitting
    admitted_new_role f =
        record {
          room = rw (lt-leb role_limit roles room)
              (and-false (some_left_over sheet u (roles_in has gives roles)));
          at = rw (some_left f) (record {
            rows = record {
              few = omega (arith, roles_fit);
              has_shown = λ v r k l.
                  ⊎_elim (λ (e : r ≡ roles). rw (e, le-ltb roles roles (omega arith)) (has_new v k))
                  (λ (b : r < roles). rw (lt-ltb r roles b) (has_earlier v r b)) (last_or_below l);
              gives_shown = λ r p k l.
                  ⊎_elim (λ (e : r ≡ roles). rw (e, le-ltb roles roles (omega arith)) (gives_new p l))
                  (λ (b : r < roles). rw (lt-ltb r roles b) (gives_earlier r p b l)) (last_or_below k);
            };
            total = add-one roles;
          });
        }
