-- What the new book says is sound for the longer sheet. Its roles multiply to it and are few, since 19 does not apply;
-- its witness is the given book's, which still stands; and its counts agree: with no new role they are the given
-- book's, and with one there are fewer witness lines than roles.
use Rattle.std.specs.Prelude.{ℕ, suc, ◌≤◌, ◌≡◌, refl, Bool, true, false, ◌&&◌, cond, leb, length}
use Rattle.std.proofs.Common.{arith, leb-false}
use Rattle.spec.specs.Limits.{role_limit}
use Rattle.spec.specs.Text.{Bytes}
use Rattle.spec.specs.Sheet.{Sheet, user_count}
use Rattle.spec.specs.Roles.{Standing, unsettled}
use Rattle.spec.specs.Book.{Said}
use Rattle.spec.specs.Right.{BoundAgrees, Right}
use Rattle.spec.specs.Newcomer.{some_left_over, roles_admitting, said_admitting}
use Rattle.right.specs.Confirmed.{bound_le_roles, SoundBook}
use Rattle.admitted.specs.OneMoreUser.{OneMore, witness_still_stands}
use Rattle.admitted.specs.ProductAdmitting.{admitting_multiplies}

-- there are no more roles than a book can have
pub few_with_new : (new : Bool) (roles : ℕ) → roles ≤ role_limit → (new && leb role_limit roles) ≡ false
    → cond new (suc roles) roles ≤ role_limit
few_with_new true roles few none = leb-false role_limit roles none
few_with_new false roles few none = few

-- the bound agrees with the state word
bound_agrees_with_new : (new : Bool) (standing : Standing) (bound roles lines : ℕ)
    → BoundAgrees standing bound roles lines
    → BoundAgrees (cond new unsettled standing) (cond new lines bound) (cond new (suc roles) roles) lines
bound_agrees_with_new true standing bound roles lines agrees =
    (refl, omega (arith, (bound_le_roles standing bound roles lines agrees).1))
bound_agrees_with_new false standing bound roles lines agrees = agrees

pub new_book_sound : {given longer : Sheet} → OneMore given longer → (book : Bytes) (before : Said)
    → Right given book before
    → (some_left_over longer (user_count given) before.roles && leb role_limit before.roles.count) ≡ false
    → SoundBook longer (said_admitting longer (user_count given) before)
unfolding role_limit said_admitting roles_admitting
new_book_sound {given} {longer} more book before right few =
    let new = some_left_over longer (user_count given) before.roles in
    record {
      few_roles = few_with_new new before.roles.count right.of_form.few_roles few;
      counts = record {
        roles = refl;
        bound = bound_agrees_with_new new before.standing before.bound before.roles.count
            (length before.witness) right.counts.bound;
      };
      product = admitting_multiplies more before.roles right.product;
      witness = witness_still_stands more before.witness right.of_form.known_users right.witness;
    }
