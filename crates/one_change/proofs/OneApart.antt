-- One change in a sheet. A column is a line of the exchanged sheets, so what is known of lines is known of columns: a
-- role set for the one sheet becomes one for the other with at most one role more. So smallest role counts, of which no
-- sheet has two, are at most 1 apart.
use Rattle.std.specs.Prelude.{ℕ, suc, ◌≤◌, ◌≡◌, ◌⊎◌}
use Rattle.std.proofs.Common.{arith, sym, ◌∙◌, inl, inr, ⊎_elim}
use Rattle.spec.specs.Sheet.{Sheet}
use Rattle.spec.specs.RoleSet.{RoleSet, Multiplies}
use Rattle.spec.specs.Admitted.{AtLeast}
use Rattle.spec.specs.OneChange.{SmallestCount, OnlyInLine, OnlyInColumn, OneChange, AtMostOneApart}
use Rattle.spec.specs.OneChange.{OnlyPermissionMoved}
use Rattle.one_change.specs.Exchanged.{exchanged_roles, exchanged}
use Rattle.one_change.proofs.Exchanged.{exchanged_holds, multiplies_exchanged, multiplies_back}
use Rattle.one_change.specs.OneLine.{same_users, same_permissions, Moved, line_moved, line_undone}

-- ---- a column is a line

-- a column is a line of the exchanged sheets
pub column_is_a_line : {p : ℕ} {sheet other : Sheet} → OnlyInColumn p sheet other
    → OnlyInLine p (exchanged sheet) (exchanged other)
column_is_a_line {p} {sheet} {other} only =
    record {
      same_names = record { permissions = only.same_names.users; users = only.same_names.permissions };
      same_cells = λ q u l k apart.
          exchanged_holds sheet u q k l
          ∙ only.same_cells u q k l apart
          ∙ sym (exchanged_holds other u q (omega (arith, same_users only.same_names))
          (omega (arith, same_permissions only.same_names)));
    }

-- roles for the other sheet, with nothing moved but permission p
pub column_moved : {p : ℕ} (sheet other : Sheet) → OnlyInLine p (exchanged sheet) (exchanged other) → {roles : RoleSet}
    → Multiplies roles sheet → Moved (OnlyPermissionMoved p roles) other
column_moved sheet other only multiplies =
    let m = line_moved only (multiplies_exchanged multiplies) in
    record {
      after = exchanged_roles m.after;
      product = multiplies_back other m.product;
      moved =
          record {
            no_fewer = m.moved.no_fewer;
            at_most_one_more = m.moved.at_most_one_more;
            same_permissions = λ r q. m.moved.same_roles q r;
            same_roles = λ u r. m.moved.same_permissions r u;
            new_has_it_alone = λ r q. m.moved.new_is_theirs q r;
          };
    }

-- one change, by lines alone
abbrev pub ByLines : Sheet → Sheet → Type 0
ByLines sheet other =
    ((u : ℕ) × OnlyInLine u sheet other) ⊎ ((p : ℕ) × OnlyInLine p (exchanged sheet) (exchanged other))

pub by_lines : {sheet other : Sheet} → OneChange sheet other → ByLines sheet other
by_lines {sheet} {other} change =
    ⊎_elim inl (λ (column : (p : ℕ) × OnlyInColumn p sheet other). inr (column.0, column_is_a_line column.1)) change

-- the change undone
pub undone : {sheet other : Sheet} → ByLines sheet other → ByLines other sheet
undone {sheet} {other} change =
    ⊎_elim (λ (line : (u : ℕ) × OnlyInLine u sheet other). inl (line.0, line_undone line.1))
    (λ (column : (p : ℕ) × OnlyInLine p (exchanged sheet) (exchanged other)).
    inr (column.0, line_undone column.1))
    change

-- ---- at most one role more

-- if every role set for the other sheet has at least n roles, then every one for this sheet has at least n - 1
pub at_least_but_one : {sheet other : Sheet} → ByLines sheet other → {n : ℕ} → AtLeast n other
    → (roles : RoleSet) → Multiplies roles sheet → n ≤ suc roles.count
at_least_but_one {sheet} {other} change {n} least roles multiplies =
    ⊎_elim
    (λ (line : (u : ℕ) × OnlyInLine u sheet other).
    let m = line_moved line.1 multiplies in
    omega (arith, least m.after m.product, m.moved.at_most_one_more))
    (λ (column : (p : ℕ) × OnlyInLine p (exchanged sheet) (exchanged other)).
    let m = column_moved sheet other column.1 multiplies in
    omega (arith, least m.after m.product, m.moved.at_most_one_more))
    change

-- ---- smallest role counts

-- no two numbers are the smallest role count of one sheet
pub smallest_is_one : {sheet : Sheet} {m n : ℕ} → SmallestCount m sheet → SmallestCount n sheet → m ≡ n
smallest_is_one smallest other =
    omega (
      arith,
      smallest.none_fewer other.roles other.product,
      other.none_fewer smallest.roles smallest.product,
      smallest.counted,
      other.counted,
    )

-- those of two sheets with one change are at most 1 apart
pub one_change_one_apart : (sheet other : Sheet) → OneChange sheet other
    → (m n : ℕ) → SmallestCount m sheet → SmallestCount n other → AtMostOneApart m n
one_change_one_apart sheet other change m n smallest next = (
  omega (
    arith,
    at_least_but_one (undone (by_lines change)) smallest.none_fewer next.roles next.product,
    next.counted,
  ),
  omega (
    arith,
    at_least_but_one (by_lines change) next.none_fewer smallest.roles smallest.product,
    smallest.counted,
  ),
)
