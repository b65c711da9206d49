-- Rows and columns exchanged. What a cell has after r roles is the same with users and permissions exchanged in the
-- sheet and in the role set; so the role sets of a sheet and those of the exchanged sheet go over into each other, with
-- as many roles.
use Rattle.std.specs.Prelude.{ℕ, zero, suc, ◌<◌, ◌≡◌, refl, Bool, false, ◌||◌, List, [], get_or}
use Rattle.std.proofs.Common.{sym, ap, ◌∙◌}
use Rattle.std.proofs.Math.Bool.{and_comm}
use Rattle.spec.specs.Vocabulary.{list_of}
use Rattle.spec.specs.Sheet.{Sheet, user_count, permission_count, holds}
use Rattle.spec.specs.RoleSet.{RoleSet, cell_after, product, Multiplies}
use Rattle.lists.specs.ListOfLaws.{getD_list_of}
use Rattle.one_change.specs.Exchanged.{exchanged_roles, exchanged}

cell_after_exchanged : (roles : RoleSet) (u p r : ℕ) → cell_after (exchanged_roles roles) p u r ≡ cell_after roles u p r
unfolding cell_after
cell_after_exchanged roles u p zero = refl
cell_after_exchanged roles u p (suc r) =
    rw (cell_after_exchanged roles u p r)
    (ap (λ (b : Bool). cell_after roles u p r || b) (and_comm (roles.gives r p) (roles.has u r)))

pub product_exchanged : (roles : RoleSet) (u p : ℕ) → product (exchanged_roles roles) p u ≡ product roles u p
unfolding product
product_exchanged roles u p = cell_after_exchanged roles u p roles.count

pub exchanged_holds : (sheet : Sheet) (u p : ℕ) → u < user_count sheet → p < permission_count sheet
    → holds (exchanged sheet) p u ≡ holds sheet u p
exchanged_holds sheet u p k l =
    ap (λ (row : List Bool). get_or row u false) (getD_list_of (permission_count sheet)
    (λ q. list_of (user_count sheet) (λ v. holds sheet v q)) p [] l)
    ∙ getD_list_of (user_count sheet) (λ v. holds sheet v p) u false k

-- a role set for a sheet is one for the exchanged sheet, and one for the exchanged sheet is one for the sheet
pub multiplies_exchanged : {roles : RoleSet} {sheet : Sheet} → Multiplies roles sheet
    → Multiplies (exchanged_roles roles) (exchanged sheet)
multiplies_exchanged {roles} {sheet} multiplies =
    record {
      cell = λ p u l k.
          product_exchanged roles u p ∙ multiplies.cell u p k l ∙ sym (exchanged_holds sheet u p k l);
    }

pub multiplies_back : {roles : RoleSet} (sheet : Sheet) → Multiplies roles (exchanged sheet)
    → Multiplies (exchanged_roles roles) sheet
multiplies_back {roles} sheet multiplies =
    record {
      cell = λ u p k l. product_exchanged roles p u ∙ multiplies.cell p u l k ∙ exchanged_holds sheet u p k l;
    }
