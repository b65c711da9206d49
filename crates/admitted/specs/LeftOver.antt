-- What the newcomer gets and what is left over, from test to meaning. They get a role exactly where they hold all its
-- permissions; a permission is left over exactly where they hold it and no role that they get does; and some are left
-- over exactly where one is.
use Prim.Native.Nat.{ℕ, ◌<◌}
use Rattle.std.specs.Prelude.{◌≡◌, ◌↔◌, false, ◌&&◌}
use Rattle.std.proofs.Common.{sym, ◌∙◌}
use Rattle.std.proofs.Math.Bool.{Bool, So, not}
use Rattle.std.proofs.lemmas.Bool.{not-false}
use Rattle.spec.specs.Vocabulary.{implies, any, every_below}
use Rattle.spec.specs.Sheet.{Sheet, permission_count, holds}
use Rattle.spec.specs.RoleSet.{RoleSet, roles_1_to}
use Rattle.spec.specs.Newcomer.{gets, left_over, some_left_over}
use Rattle.spec.specs.Admitted.{HoldsAll, LeftOver}
use Rattle.bits.specs.Counting.{some_below}
use Rattle.bits.specs.Truth.{not_both, fails_unless, and_intro, and_left, and_right, implies_intro, implies_elim}
use Rattle.bits.specs.Truth.{not_passes, not_fails}
use Rattle.bits.specs.Laws.Below.{every_below_intro, every_below_elim, every_below_not, missed_below_intro}
use Rattle.bits.specs.Laws.Below.{some_below_elim}
use Rattle.lists.specs.TestLaws.{any_intro, any_elim}
use Rattle.lists.specs.ListOfLaws.{list_of_member, list_of_element}

module _ (sheet : Sheet) (u : ℕ) (roles : RoleSet) where
  -- they get a role exactly where they hold all its permissions
  pub gets_exactly : (r : ℕ) → So (gets sheet u roles r) ↔ HoldsAll sheet u roles r
  gets_exactly r = (
    λ e p l. implies_elim (roles.gives r p) (holds sheet u p) (every_below_elim (permission_count sheet) allowed e l),
    λ all. every_below_intro (permission_count sheet) allowed (λ p l.
        implies_intro (roles.gives r p) (holds sheet u p) (all p l)),
  )
    where
      allowed : ℕ → Bool
      allowed p = implies (roles.gives r p) (holds sheet u p)

  -- ---- one permission

  -- a role that they get, and that holds the permission
  pub record RoleGot (p : ℕ) : Type 0 where
    pub role : ℕ
    pub within : role < roles.count
    pub theirs : So (gets sheet u roles role)
    pub gives : So (roles.gives role p)

  abbrev some_got : ℕ → Bool
  some_got p = any (λ r. gets sheet u roles r && roles.gives r p) (roles_1_to roles.count)

  some_got_intro : (p : ℕ) → RoleGot p → So (some_got p)
  some_got_intro p got =
      any_intro (λ r. gets sheet u roles r && roles.gives r p) (roles_1_to roles.count)
      (list_of_member roles.count (λ r. r) got.role got.within)
      (and_intro (gets sheet u roles got.role) (roles.gives got.role p) got.theirs got.gives)

  some_got_elim : (p : ℕ) → So (some_got p) → RoleGot p
  some_got_elim p e =
      let found = any_elim (λ r. gets sheet u roles r && roles.gives r p) (roles_1_to roles.count) e in
      let at = list_of_element roles.count (λ r. r) found.member in
      let passes : So (gets sheet u roles at.place && roles.gives at.place p) = rw at.there found.passes in
      record {
        role = at.place;
        within = at.within;
        theirs = and_left (gets sheet u roles at.place) (roles.gives at.place p) passes;
        gives = and_right (gets sheet u roles at.place) (roles.gives at.place p) passes;
      }

  -- what is left over is held
  pub left_over_held : (p : ℕ) → So (left_over sheet u roles p) → So (holds sheet u p)
  left_over_held p e = and_left (holds sheet u p) (not (some_got p)) e

  -- what is held and not left over is in a role that they get
  pub got_or_left_over : (p : ℕ) → So (holds sheet u p) → left_over sheet u roles p ≡ false → RoleGot p
  got_or_left_over p held none = some_got_elim p (not-false (some_got p) (rw held at none))

  pub left_over_exactly : (p : ℕ) → p < permission_count sheet
      → So (left_over sheet u roles p) ↔ LeftOver sheet u roles p
  left_over_exactly p l = (
    λ e. record {
      within = l;
      held = left_over_held p e;
      in_none = λ r k all.
          fails_unless (roles.gives r p) (λ gives.
          not_both (some_got_intro p (record { role = r; within = k; theirs = (gets_exactly r).1 all; gives = gives }))
          (not_fails (some_got p) (and_right (holds sheet u p) (not (some_got p)) e)));
    },
    λ left. and_intro (holds sheet u p) (not (some_got p)) left.held
        (not_passes (some_got p) (fails_unless (some_got p) (λ e.
        let got = some_got_elim p e in
        not_both got.gives (left.in_none got.role got.within ((gets_exactly got.role).0 got.theirs))))),
  )

  -- ---- all permissions

  -- a permission that is left over
  pub record SomeLeft : Type 0 where
    pub permission : ℕ
    pub left : LeftOver sheet u roles permission

  pub some_left_over_elim : So (some_left_over sheet u roles) → SomeLeft
  unfolding some_left_over
  some_left_over_elim e =
      let missed = not_fails (every_below (permission_count sheet) none_here) e in
      let found = some_below_elim (permission_count sheet) (λ p. not (none_here p))
      (not-false (some_below (permission_count sheet) (λ p. not (none_here p)))
      (sym (every_below_not (permission_count sheet) none_here) ∙ missed)) in
      record {
        permission = found.place;
        left = (left_over_exactly found.place found.within).0
            (not-false (left_over sheet u roles found.place) (not_fails (none_here found.place) found.holds));
      }
    where
      none_here : ℕ → Bool
      none_here p = not (left_over sheet u roles p)

  pub some_left_over_intro : (p : ℕ) → LeftOver sheet u roles p → So (some_left_over sheet u roles)
  unfolding some_left_over
  some_left_over_intro p left =
      not_passes (every_below (permission_count sheet) none_here)
      (missed_below_intro (permission_count sheet) none_here left.within
      (rw ((left_over_exactly p left.within).1 left)))
    where
      none_here : ℕ → Bool
      none_here p = not (left_over sheet u roles p)
