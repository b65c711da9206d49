-- Two books that say the same of the given sheet say the same of the longer one with the newcomer in them. What the
-- newcomer gets, and what is left over, looks only at the permissions that the roles hold; and all else is kept.
use Rattle.std.specs.Prelude.{ℕ, suc, ◌<◌, ◌≡◌}
use Rattle.std.proofs.Common.{arith, sym, ◌∙◌, ⊎_elim}
use Rattle.std.proofs.Math.Path.{ap}
use Rattle.std.proofs.Math.Bool.{not}
use Rattle.spec.specs.Vocabulary.{implies}
use Rattle.spec.specs.Sheet.{Sheet, user_count, permission_count, holds}
use Rattle.spec.specs.RoleSet.{RoleSet}
use Rattle.spec.specs.Book.{Said}
use Rattle.spec.specs.Newcomer.{gets, left_over, some_left_over, roles_admitting, said_admitting}
use Rattle.spec.specs.Admitted.{LeftOver}
use Rattle.bits.specs.Truth.{same_truth}
use Rattle.bits.specs.Laws.Below.{every_below_ext, last_or_below, below_or_from}
use Rattle.right.specs.ReadBack.{SaysSame}
use Rattle.admitted.specs.LeftOver.{left_over_exactly}
use Rattle.admitted.specs.RolesAdmitting.{count_admitting, has_as_before, has_theirs, has_new, gives_as_before}
use Rattle.admitted.specs.RolesAdmitting.{gives_new}

-- as many roles, with the same permissions of the sheet
pub record GivesSame (sheet : Sheet) (first second : RoleSet) : Type 0 where
  pub count : first.count ≡ second.count
  pub gives : (r p : ℕ) → r < second.count → p < permission_count sheet → first.gives r p ≡ second.gives r p

gives_same_sym : {sheet : Sheet} {first second : RoleSet} → GivesSame sheet first second → GivesSame sheet second first
gives_same_sym same =
    record { count = sym same.count; gives = λ r p h k. sym (same.gives r p (rw same.count at h) k) }

-- ---- what the newcomer gets, and what is left over

module _ (sheet : Sheet) (u : ℕ) where
  pub gets_same : (first second : RoleSet) → GivesSame sheet first second → (r : ℕ) → r < second.count
      → gets sheet u first r ≡ gets sheet u second r
  gets_same first second same r h =
      every_below_ext (permission_count sheet) (λ p. implies (first.gives r p) (holds sheet u p))
      (λ p. implies (second.gives r p) (holds sheet u p)) (λ p k. rw (same.gives r p h k))

  still_left_over : (first second : RoleSet) → GivesSame sheet first second → (p : ℕ) → LeftOver sheet u first p
      → LeftOver sheet u second p
  still_left_over first second same p left =
      record {
        within = left.within;
        held = left.held;
        in_none = λ r h all.
            sym (same.gives r p h left.within)
            ∙ left.in_none r (rw same.count h) (λ q k gives. all q k (sym (same.gives r q h k) ∙ gives));
      }

  pub left_over_same : (first second : RoleSet) → GivesSame sheet first second → (p : ℕ) → p < permission_count sheet
      → left_over sheet u first p ≡ left_over sheet u second p
  left_over_same first second same p k =
      let one = left_over_exactly sheet u first p k in
      let other = left_over_exactly sheet u second p k in
      same_truth (left_over sheet u first p) (left_over sheet u second p)
      (λ e. other.1 (still_left_over first second same p (one.0 e)))
      (λ e. one.1 (still_left_over second first (gives_same_sym same) p (other.0 e)))

  pub some_left_over_same : (first second : RoleSet) → GivesSame sheet first second
      → some_left_over sheet u first ≡ some_left_over sheet u second
  unfolding some_left_over
  some_left_over_same first second same =
      ap not
      (every_below_ext (permission_count sheet) (λ p. not (left_over sheet u first p))
      (λ p. not (left_over sheet u second p)) (λ p k. ap not (left_over_same first second same p k)))

-- ---- the new matrices

module _ (sheet : Sheet) (u : ℕ) (first second : RoleSet) (same : GivesSame sheet first second) where
  same_count : (roles_admitting sheet u first).count ≡ (roles_admitting sheet u second).count
  same_count =
      rw (
        count_admitting sheet u first,
        count_admitting sheet u second,
        some_left_over_same sheet u first second same,
        same.count,
      )

  -- of the earlier users, and of the newcomer
  same_has : ((v r : ℕ) → v < u → r < second.count → first.has v r ≡ second.has v r) → (v r : ℕ) → v < suc u
      → (roles_admitting sheet u first).has v r ≡ (roles_admitting sheet u second).has v r
  same_has had v r h =
      ⊎_elim (λ k. ⊎_elim (λ e. rw e (theirs k)) (λ l. earlier k l) (last_or_below h))
      (λ k. has_new sheet u first v r (rw same.count k) ∙ sym (has_new sheet u second v r k))
      (below_or_from r second.count)
    where
      theirs : r < second.count → (roles_admitting sheet u first).has u r ≡ (roles_admitting sheet u second).has u r
      theirs k =
          has_theirs sheet u first r (rw same.count k) ∙ gets_same sheet u first second same r k
          ∙ sym (has_theirs sheet u second r k)

      earlier : r < second.count → v < u
          → (roles_admitting sheet u first).has v r ≡ (roles_admitting sheet u second).has v r
      earlier k l =
          has_as_before sheet u first v r (λ e. omega arith) (rw same.count k) ∙ had v r l k
          ∙ sym (has_as_before sheet u second v r (λ e. omega arith) k)

  same_gives : (r p : ℕ) → p < permission_count sheet
      → (roles_admitting sheet u first).gives r p ≡ (roles_admitting sheet u second).gives r p
  same_gives r p h =
      ⊎_elim
      (λ k.
      gives_as_before sheet u first r p (rw same.count k) ∙ same.gives r p k h
      ∙ sym (gives_as_before sheet u second r p k))
      (λ k.
      gives_new sheet u first r p (rw same.count k) ∙ left_over_same sheet u first second same p h
      ∙ sym (gives_new sheet u second r p k))
      (below_or_from r second.count)

-- ---- the new books

-- the longer sheet has the permissions of the given one, and one user more
pub same_admitting : (given longer : Sheet) → permission_count longer ≡ permission_count given
    → user_count longer ≡ suc (user_count given) → (read written : Said) → SaysSame given read written
    → SaysSame longer (said_admitting longer (user_count given) read) (said_admitting longer (user_count given) written)
unfolding said_admitting
same_admitting given longer permissions users read written same =
    record {
      count = same_count longer u read.roles written.roles give;
      bound = rw (new, same.witness, same.bound);
      standing = rw (new, same.standing);
      roles = same_count longer u read.roles written.roles give;
      has = λ v r h k. same_has longer u read.roles written.roles give same.has v r (rw users at h);
      gives = λ r p h k. same_gives longer u read.roles written.roles give r p k;
      witness = same.witness;
    }
  where
    u : ℕ
    u = user_count given

    give : GivesSame longer read.roles written.roles
    give = record { count = same.roles; gives = λ r p h k. same.gives r p h (rw permissions at k) }

    new : some_left_over longer u read.roles ≡ some_left_over longer u written.roles
    new = some_left_over_same longer u read.roles written.roles give
