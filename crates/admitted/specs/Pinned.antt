-- What is owed of the new book leaves one thing that it can say: earlier users, earlier roles and the witness are as
-- before, the newcomer has the roles that they get, and there is a new role exactly where permissions are left over,
-- with exactly those. That is what the call makes of the given book.
use Rattle.std.specs.Prelude.{ℕ, suc, ◌<◌, ◌≡◌, refl, ◌⊎◌, ◌↔◌, eqb}
use Rattle.std.proofs.Common.{le_refl, arith, ◌∙◌, eq-eqb, ne_eqb}
use Rattle.std.proofs.Math.Path.{sym}
use Rattle.std.proofs.Math.Logic.{⊎_elim}
use Rattle.std.proofs.Math.Bool.{false, So}
use Rattle.spec.specs.Sheet.{Sheet, user_count, permission_count}
use Rattle.spec.specs.Book.{Said}
use Rattle.spec.specs.Newcomer.{gets, left_over, some_left_over, roles_admitting, said_admitting}
use Rattle.spec.specs.Admitted.{HoldsAll, NoNewRole, OneNewRole}
use Rattle.bits.specs.Truth.{fails_unless, same_truth}
use Rattle.bits.specs.Laws.Below.{last_or_below}
use Rattle.right.specs.ReadBack.{SaysSame}
use Rattle.admitted.specs.LeftOver.{gets_exactly, left_over_exactly, some_left_over_elim, some_left_over_intro}
use Rattle.admitted.specs.RolesAdmitting.{count_admitting, has_as_before, has_theirs, has_new, gives_as_before}
use Rattle.admitted.specs.RolesAdmitting.{gives_new}

-- what is owed of what the new book says of a sheet, whose last user u is the newcomer
pub record Pinned (sheet : Sheet) (u : ℕ) (before after : Said) : Type 0 where
  pub last_user : user_count sheet ≡ suc u
  pub counted : after.count ≡ after.roles.count
  pub same_roles : (v r : ℕ) → v < u → r < before.roles.count → after.roles.has v r ≡ before.roles.has v r
  pub same_permissions : (r p : ℕ) → r < before.roles.count → p < permission_count sheet
      → after.roles.gives r p ≡ before.roles.gives r p
  pub same_witness : after.witness ≡ before.witness
  pub theirs : (r : ℕ) → r < before.roles.count
      → So (after.roles.has u r) ↔ HoldsAll sheet u before.roles r
  pub new_role : NoNewRole sheet u before after ⊎ OneNewRole sheet u before after

module _ (sheet : Sheet) (u : ℕ) (before after : Said) (pinned : Pinned sheet u before after) where
  -- ---- earlier roles

  has_what_they_get : (r : ℕ) → r < before.roles.count → after.roles.has u r ≡ gets sheet u before.roles r
  has_what_they_get r l =
      let exact = gets_exactly sheet u before.roles r in
      let theirs = pinned.theirs r l in
      same_truth (after.roles.has u r) (gets sheet u before.roles r) (λ e. exact.1 (theirs.0 e))
      (λ e. theirs.1 (exact.0 e))

  earlier_has : (v r : ℕ) → v < user_count sheet → r < before.roles.count
      → after.roles.has v r ≡ (roles_admitting sheet u before.roles).has v r
  earlier_has v r h l =
      ⊎_elim (λ e. rw e (has_what_they_get r l ∙ sym (has_theirs sheet u before.roles r l)))
      (λ (k : v < u).
      pinned.same_roles v r k l ∙ sym (has_as_before sheet u before.roles v r (λ e. omega arith) l))
      (last_or_below (rw pinned.last_user at h))

  earlier_gives : (r p : ℕ) → r < before.roles.count → p < permission_count sheet
      → after.roles.gives r p ≡ (roles_admitting sheet u before.roles).gives r p
  earlier_gives r p l k =
      pinned.same_permissions r p l k ∙ sym (gives_as_before sheet u before.roles r p l)

  -- ---- no new role

  says_no_new_role : NoNewRole sheet u before after → SaysSame sheet after (said_admitting sheet u before)
  unfolding said_admitting
  says_no_new_role kept =
      record {
        count = pinned.counted ∙ kept.count ∙ sym as_many;
        bound = rw none kept.bound;
        standing = rw none kept.standing;
        roles = kept.count ∙ sym as_many;
        has = λ v r h k. earlier_has v r h (rw as_many at k);
        gives = λ r p h k. earlier_gives r p (rw as_many at h) k;
        witness = pinned.same_witness;
      }
    where
      none : some_left_over sheet u before.roles ≡ false
      none =
          fails_unless (some_left_over sheet u before.roles) (λ e.
          let found = some_left_over_elim sheet u before.roles e in
          kept.none_left found.permission found.left)

      as_many : (roles_admitting sheet u before.roles).count ≡ before.roles.count
      as_many = rw (count_admitting sheet u before.roles, none)

  -- ---- one new role

  new_has : OneNewRole sheet u before after → (v : ℕ) → v < user_count sheet
      → after.roles.has v before.roles.count
      ≡ (roles_admitting sheet u before.roles).has v before.roles.count
  new_has new v h =
      ⊎_elim
      (λ e. rw e (new.has_new ∙ sym (new_column u ∙ eq-eqb u u refl)))
      (λ (k : v < u). new.only_theirs v k ∙ sym (new_column v ∙ ne_eqb v u (λ e. omega arith)))
      (last_or_below (rw pinned.last_user at h))
    where
      new_column : (w : ℕ) → (roles_admitting sheet u before.roles).has w before.roles.count ≡ eqb w u
      new_column w = has_new sheet u before.roles w before.roles.count (le_refl before.roles.count)

  new_gives : OneNewRole sheet u before after → (p : ℕ) → p < permission_count sheet
      → after.roles.gives before.roles.count p
      ≡ (roles_admitting sheet u before.roles).gives before.roles.count p
  new_gives new p k =
      let exact = left_over_exactly sheet u before.roles p k in
      let told = new.exactly p k in
      same_truth (after.roles.gives before.roles.count p) (left_over sheet u before.roles p)
      (λ e. exact.1 (told.0 e)) (λ e. told.1 (exact.0 e))
      ∙ sym (gives_new sheet u before.roles before.roles.count p (le_refl before.roles.count))

  says_one_new_role : OneNewRole sheet u before after → SaysSame sheet after (said_admitting sheet u before)
  unfolding said_admitting
  says_one_new_role new =
      record {
        count = pinned.counted ∙ new.count ∙ sym one_more;
        bound = rw some new.bound;
        standing = rw some new.standing;
        roles = new.count ∙ sym one_more;
        has = λ v r h k.
            ⊎_elim (λ e. rw e (new_has new v h)) (λ l. earlier_has v r h l) (last_or_below (rw one_more at k));
        gives = λ r p h k.
            ⊎_elim (λ e. rw e (new_gives new p k)) (λ l. earlier_gives r p l k) (last_or_below (rw one_more at h));
        witness = pinned.same_witness;
      }
    where
      some : So (some_left_over sheet u before.roles)
      some = some_left_over_intro sheet u before.roles new.left new.some_left

      one_more : (roles_admitting sheet u before.roles).count ≡ suc before.roles.count
      one_more = rw (count_admitting sheet u before.roles, some)

  -- so the new book says what the call makes of the given one
  pub pinned_says : SaysSame sheet after (said_admitting sheet u before)
  pinned_says = ⊎_elim says_no_new_role says_one_new_role pinned.new_role
