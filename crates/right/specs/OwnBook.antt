-- The book of a sheet in a state of its search is right for what it says, where its roles are few and multiply to the
-- sheet and its witness stands: the state word and the bound are set from the roles and the witness just as the
-- counts must agree.
use Rattle.std.specs.Prelude.{ℕ, ◌≤◌, ◌≡◌, refl, Bool, true, false, cond, eqb, length}
use Rattle.std.proofs.Common.{arith, eqb-true}
use Rattle.std.proofs.Math.Bool.{So}
use Rattle.std.proofs.lemmas.Bool.{eqb-false}
use Rattle.spec.specs.Limits.{role_limit}
use Rattle.spec.specs.Text.{Bytes}
use Rattle.spec.specs.Sheet.{Sheet, sheet_of}
use Rattle.spec.specs.Witness.{witness}
use Rattle.spec.specs.Machine.{State}
use Rattle.spec.specs.RoleSet.{Multiplies}
use Rattle.spec.specs.Roles.{witnessed, searched, unsettled, standing_of, bound_of, roles_of, role_count, standing}
use Rattle.spec.specs.Roles.{bound}
use Rattle.spec.specs.Book.{said_in, book}
use Rattle.spec.specs.Right.{BoundAgrees, WitnessStands, Right}
use Rattle.spec.specs.Refusal.{accepted}
use Rattle.right.specs.Confirmed.{SoundBook, sound_is_right}

-- state and bound agree, where there are no more witness lines than roles
pub bound_agrees_of : (roles w : ℕ) (finished : Bool) → w ≤ roles
    → BoundAgrees (standing_of roles w finished) (bound_of (standing_of roles w finished) roles w) roles w
bound_agrees_of roles w finished h = choose (eqb roles w) refl finished
  where
    choose : (t : Bool) → eqb roles w ≡ t → (f : Bool)
        → BoundAgrees (cond t witnessed (cond f searched unsettled))
        (bound_of (cond t witnessed (cond f searched unsettled)) roles w) roles w
    choose true e f = (refl, eqb-true roles w e)
    choose false e true = (refl, let apart = eqb-false roles w e in omega arith)
    choose false e false = (refl, let apart = eqb-false roles w e in omega arith)

-- what must be known of the roles and the witness
pub record OwnFacts (sheet : Sheet) (st : State) : Type 0 where
  pub few_roles : role_count sheet st ≤ role_limit
  pub enough_roles : length (witness sheet) ≤ role_count sheet st
  pub product : Multiplies (roles_of sheet st.best) sheet
  pub witness_stands : WitnessStands sheet (witness sheet)

pub own_book_sound : (sheet : Sheet) (st : State) → OwnFacts sheet st → SoundBook sheet (said_in sheet st)
unfolding said_in role_count bound standing
own_book_sound sheet st f =
    record {
      few_roles = f.few_roles;
      counts =
          record {
            roles = refl;
            bound = bound_agrees_of (role_count sheet st) (length (witness sheet)) st.finished f.enough_roles;
          };
      product = f.product;
      witness = f.witness_stands;
    }

pub own_book_right : (text : Bytes) → So (accepted text) → (st : State) → OwnFacts (sheet_of text) st
    → Right (sheet_of text) (book (sheet_of text) st) (said_in (sheet_of text) st)
unfolding book
own_book_right text takes st f =
    sound_is_right text takes (said_in (sheet_of text) st) (own_book_sound (sheet_of text) st f)
