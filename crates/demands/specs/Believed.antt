-- Every book of an accepted sheet can be believed, wherever its search stands. Searches keep what minimality asks of
-- a state; such a state's roles multiply to the sheet, are few enough and at least as many as the witness has grants;
-- so the book is right and the checker accepts it, its bound is a bound for every role set, and unless it is open no
-- role set has fewer roles.
use Rattle.std.specs.Prelude.{ℕ, ◌≤◌, ◌≡◌, ◌⊎◌, ◌≢◌}
use Rattle.std.proofs.Common.{arith, inl, inr}
use Rattle.std.proofs.Math.Path.{refl}
use Rattle.std.proofs.Math.Bool.{So}
use Rattle.spec.specs.Limits.{permission_limit, role_limit}
use Rattle.spec.specs.Text.{Bytes}
use Rattle.spec.specs.Sheet.{Sheet, sheet_of}
use Rattle.spec.specs.Witness.{witness}
use Rattle.spec.specs.Roles.{Standing, witnessed, searched, unsettled, role_count, standing}
use Rattle.spec.specs.Book.{said_in, book_text, book}
use Rattle.spec.specs.Right.{WitnessStands, Right}
use Rattle.spec.specs.Refusal.{accepted}
use Rattle.spec.specs.Calls.{searched_on}
use Rattle.spec.specs.Sequence.{searched_in_all, reached}
use Rattle.spec.specs.Demands.{Believed}
use Rattle.cells.specs.Laws.Grant.{grant_held}
use Rattle.rules.specs.Accepted.{accepted_keeps}
use Rattle.right.specs.Exact.{answers_counts}
use Rattle.right.specs.OwnBook.{OwnFacts, own_book_right}
use Rattle.minimality.specs.GrantClassing.{Even}
use Rattle.minimality.specs.WitnessLaws.{witness_granted, witness_independent}
use Rattle.minimality.specs.StateBound.{Searching, searching_start, searching_on, state_multiplies}
use Rattle.minimality.specs.StateBound.{state_le_permissions, witness_le_state, settled_is_smallest, bound_bounds}

-- whatever was given, the state is one that searches come to
pub reached_searching : (text : Bytes) (given : ℕ) → Searching (sheet_of text) (reached text given)
unfolding reached searched_in_all searched_on
reached_searching text given = searching_on given (searching_start (sheet_of text))

pub accepted_even : (text : Bytes) → So (accepted text) → Even (sheet_of text)
accepted_even text takes =
    let kept = accepted_keeps text takes in record { a_row_each = kept.a_row_each; even_rows = kept.even_rows }

-- the witness's grants are held, and no two fit
pub witness_holds : (sheet : Sheet) → WitnessStands sheet (witness sheet)
witness_holds sheet =
    record {
      all_held = λ g m. grant_held sheet (witness_granted sheet m);
      none_fit = (witness_independent sheet).apart;
    }

-- never more roles than the checker takes
pub few_roles : (text : Bytes) → So (accepted text) → (given : ℕ) → role_count (sheet_of text) (reached text given) ≤
    role_limit
unfolding role_limit permission_limit
few_roles text takes given =
    omega (
      arith,
      state_le_permissions (sheet_of text) (reached text given) (reached_searching text given)
          (accepted_even text takes),
      (accepted_keeps text takes).few_permissions,
    )

own_facts : (text : Bytes) → So (accepted text) → (given : ℕ) → OwnFacts (sheet_of text) (reached text given)
own_facts text takes given =
    let s = reached_searching text given in
    record {
      few_roles = few_roles text takes given;
      enough_roles = witness_le_state (sheet_of text) (reached text given) s (accepted_even text takes);
      product = state_multiplies (sheet_of text) (reached text given) s;
      witness_stands = witness_holds (sheet_of text);
    }

-- `witnessed` and `searched` are not `open`
not_open : (s : Standing) → (s ≡ witnessed) ⊎ (s ≡ searched) → s ≢ unsettled
not_open s (inl e) o = let z : ◌≡◌ {A = ℕ} 0 1 = cc in omega arith
not_open s (inr e) o = let z : ◌≡◌ {A = ℕ} 0 1 = cc in omega arith

module _ (text : Bytes) (takes : So (accepted text)) (given : ℕ) where
  book_written : book (sheet_of text) (reached text given) ≡ book_text (sheet_of text)
      (said_in (sheet_of text) (reached text given))
  unfolding book
  book_written = refl

  book_right : Right (sheet_of text) (book (sheet_of text) (reached text given))
      (said_in (sheet_of text) (reached text given))
  book_right = own_book_right text takes (reached text given) (own_facts text takes given)

  pub book_believed : Believed text (book (sheet_of text) (reached text given))
  unfolding said_in
  book_believed =
      let searching = reached_searching text given in
      let even = accepted_even text takes in
      record {
        says = said_in (sheet_of text) (reached text given);
        written = book_written;
        right = book_right;
        bounded = bound_bounds (sheet_of text) (reached text given) searching even;
        smallest = λ settled roles multiplies.
            settled_is_smallest (sheet_of text) (reached text given) searching even roles multiplies
            (not_open _ settled);
        confirmed_by_check =
            answers_counts text (book (sheet_of text) (reached text given)) (sheet_of text)
            (said_in (sheet_of text) (reached text given))
            (accepted_keeps text takes) book_right;
      }

  -- its state is that of the search
  pub book_says : book_believed.says.standing ≡ standing (sheet_of text) (reached text given)
  unfolding book_believed said_in
  book_says = refl
