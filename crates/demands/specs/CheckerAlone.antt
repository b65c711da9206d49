-- What the checker alone guarantees, with neither the program nor a session: for any sheet and any book that it
-- accepts, whoever wrote it, the product is the sheet, every role set has at least as many roles as there are witness
-- lines, and a `witnessed` book is smallest. The witness lines are grants of which no two fit, so each needs a role
-- of its own in every role set.
use Rattle.std.specs.Prelude.{ℕ, ◌≤◌, ◌≡◌, length}
use Rattle.std.proofs.Common.{arith, sym}
use Rattle.std.proofs.Math.Bool.{So}
use Rattle.spec.specs.Text.{Bytes}
use Rattle.spec.specs.Sheet.{sheet_of}
use Rattle.spec.specs.RoleSet.{RoleSet, Multiplies}
use Rattle.spec.specs.Roles.{Standing, witnessed, searched, unsettled}
use Rattle.spec.specs.Book.{Said}
use Rattle.spec.specs.Form.{said}
use Rattle.spec.specs.Right.{BoundAgrees, Right}
use Rattle.spec.specs.Refusal.{accepted}
use Rattle.spec.specs.Calls.{check, check_counts}
use Rattle.spec.specs.Admitted.{AtLeast}
use Rattle.cells.specs.Laws.Grant.{held_grant}
use Rattle.right.specs.Exact.{sheet_accepted, reads_books}
use Rattle.right.specs.Verdict.{check_confirms}
use Rattle.minimality.specs.RoleSets.{independent_bounds_role_sets}
use Rattle.demands.specs.Believed.{accepted_even}

-- what a reader may rely on who has the sheet, the book and the checker's answer, through what the book says
pub record Guaranteed (sheet : Bytes) (book : Bytes) : Type 0 where
  pub says : Said
  -- form, counts, product and witness are right
  pub right : Right (sheet_of sheet) book says
  -- the answer is the number of roles and of witness lines
  pub counted : check sheet book ≡ check_counts says
  -- every role set has at least as many roles as there are witness lines
  pub bounded : (roles : RoleSet) → Multiplies roles (sheet_of sheet) → length says.witness ≤ roles.count
  -- a `witnessed` book is smallest
  pub smallest : says.standing ≡ witnessed → (roles : RoleSet) → Multiplies roles (sheet_of sheet)
      → says.count ≤ roles.count

-- a `witnessed` book has as many witness lines as roles
witnessed_lines : (s : Standing) (bound roles lines : ℕ) → BoundAgrees s bound roles lines → s ≡ witnessed
    → lines ≡ roles
witnessed_lines witnessed bound roles lines b w = sym b.1
witnessed_lines searched bound roles lines b w = cc
witnessed_lines unsettled bound roles lines b w = cc

-- every role set has at least as many roles as a right book has witness lines
pub lines_bound : (text book : Bytes) (says : Said) → So (accepted text) → Right (sheet_of text) book says
    → AtLeast (length says.witness) (sheet_of text)
lines_bound text book says takes right roles multiplies =
    independent_bounds_role_sets (accepted_even text takes) says.witness
    (record { apart = right.witness.none_fit })
    (λ g m. held_grant (sheet_of text) g (right.witness.all_held g m)) multiplies

pub checker_guarantees : (sheet book : Bytes) → (check sheet book).number ≡ 0 → Guaranteed sheet book
checker_guarantees sheet book accepts =
    let right = reads_books sheet book accepts in
    let bounded = lines_bound sheet book (said (sheet_of sheet) book) (sheet_accepted sheet book accepts) right in
    record {
      says = said (sheet_of sheet) book;
      right = right;
      counted = check_confirms sheet book accepts;
      bounded = bounded;
      smallest = λ witnesses roles multiplies.
          omega (
            arith,
            right.counts.roles,
            witnessed_lines _ _ _ _ right.counts.bound witnesses,
            bounded roles multiplies,
          );
    }
