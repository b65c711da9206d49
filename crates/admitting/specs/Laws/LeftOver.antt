-- What is left over of a newcomer's permissions, by a product: it is what the newcomer holds and the product of the
-- roles that they get has not.
use Rattle.std.specs.Prelude.{ℕ, ◌≡◌, Bool, not, ◌&&◌}
use Rattle.std.proofs.Common.{sym, ap}
use Rattle.spec.specs.Sheet.{Sheet, holds}
use Rattle.spec.specs.RoleSet.{RoleSet, cell_after}
use Rattle.spec.specs.Newcomer.{gets, left_over}
use Rattle.product.specs.Laws.OrOverRoles.{what_a_cell_has_after_r_roles_is_the_or_over_roles_1_to_r}

-- a role set in which everyone has the roles that the newcomer gets
abbrev pub theirs : Sheet → ℕ → RoleSet → RoleSet
theirs sheet u roles =
    record { count = roles.count; has = λ v r. gets sheet u roles r; gives = roles.gives }

pub left_over_by_product : (sheet : Sheet) (u : ℕ) (roles : RoleSet) (p : ℕ)
    → left_over sheet u roles p ≡ (holds sheet u p && not (cell_after (theirs sheet u roles) 0 p roles.count))
left_over_by_product sheet u roles p =
    ap (λ (b : Bool). holds sheet u p && not b)
    (sym (what_a_cell_has_after_r_roles_is_the_or_over_roles_1_to_r (theirs sheet u roles) 0 p roles.count))
