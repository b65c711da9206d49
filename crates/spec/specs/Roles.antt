-- "Roles and state": the classes of all grants, the roles of a placement of the kernel, the state and the bound.
use Rattle.std.specs.Prelude.{◌&&◌, ◌∷◌}
use Rattle.spec.specs.Vocabulary.{ℕ, suc, Bool, cond, List, [], reverse, eqb, length, any}
use Rattle.spec.specs.Sheet.{Sheet, Grant, same_grant, grants}
use Rattle.spec.specs.Reduction.{Removal, single, tied, Reduction, reduction, kernel, kernel_size, singles}
use Rattle.spec.specs.Witness.{witness, witness_size}
use Rattle.spec.specs.Cover.{used, grouping, grant_at, fit_at, first_best}
use Rattle.spec.specs.Machine.{Kernel, State, start}
use Rattle.spec.specs.RoleSet.{RoleSet}

-- a grant with its class
pub record Classed : Type 0 where
  pub grant : Grant
  pub class : ℕ

-- grants with their classes, place by place
abbrev pub paired : List Grant → List ℕ → List Classed
paired [] classes = []
paired (g ∷ grants) [] = []
paired (g ∷ grants) (c ∷ classes) = record { grant = g; class = c } ∷ paired grants classes

-- the class of a grant. Where a placement has a class for each grant of the kernel, as all of the machine's have, it
-- is asked only of grants that have one, and the 0 is never reached: the law `putting_back_classes` (minimality,
-- PuttingBack) has every grant among them
abbrev pub class_of : List Classed → Grant → ℕ
class_of [] g = 0
class_of (x ∷ rest) g = cond (same_grant g x.grant) x.class (class_of rest g)

-- grants in classes, and how many classes there are
pub record Classes : Type 0 where
  pub members : List Classed
  pub count : ℕ

-- a single opens a class and a tied grant joins its partner's class
abbrev pub put_back : Removal → Classes → Classes
put_back (single g) classes =
    record { members = record { grant = g; class = classes.count } ∷ classes.members; count = suc classes.count }
put_back (tied g h) classes =
    record {
      members = record { grant = g; class = class_of classes.members h } ∷ classes.members;
      count = classes.count;
    }

-- in reverse order of removal: the latest stands first
abbrev pub put_all_back : List Removal → Classes → Classes
put_all_back [] classes = classes
put_all_back (removal ∷ earlier) classes = put_all_back earlier (put_back removal classes)

-- a placement of the kernel, the latest grant first, as classes
abbrev pub kernel_classes : List Grant → List ℕ → Classes
kernel_classes kernel placed = record { members = paired (reverse kernel) placed; count = used placed }

-- the classes of all grants, from a placement of what a reduction left
unfoldable pub classes_of : Reduction → List ℕ → Classes
classes_of r placed = put_all_back r.removed (kernel_classes r.remaining placed)

-- two grants of a list, by number: they are of one class
abbrev pub class_at : List Grant → List Classed → ℕ → ℕ → Bool
class_at grants members i j = eqb (class_of members (grant_at grants i)) (class_of members (grant_at grants j))

-- the role numbers of some grants in classes, the latest grant first: roles are numbered by their lowest grant
abbrev pub role_numbers : List Grant → List Classed → List ℕ
role_numbers grants members = grouping (class_at grants members) (length grants)

-- a class becomes a role: the users and the permissions of its grants
abbrev pub role_set : List Classed → ℕ → RoleSet
role_set members count =
    record {
      count = count;
      has = λ u r. any (λ x. eqb x.grant.user u && eqb x.class r) members;
      gives = λ r p. any (λ x. eqb x.grant.permission p && eqb x.class r) members;
    }

-- the roles of some grants in classes
abbrev pub roles_of_classes : List Grant → List Classed → RoleSet
roles_of_classes grants members =
    let numbers : List ℕ = role_numbers grants members in
    role_set (paired (reverse grants) numbers) (used numbers)

-- the roles of a sheet, from a placement of its kernel
unfoldable pub roles_of : Sheet → List ℕ → RoleSet
unfolding reduction classes_of
roles_of sheet placed = roles_of_classes (grants sheet) (classes_of (reduction sheet) placed).members

-- what a search of a sheet is about
unfoldable pub kernel_of : Sheet → Kernel
unfolding kernel singles witness
kernel_of sheet =
    record {
      size = kernel_size sheet;
      fit = fit_at sheet (kernel sheet);
      singles = length (singles sheet);
      witness = witness_size sheet;
    }

-- where the machine starts on a sheet
unfoldable pub start_of : Sheet → State
unfolding kernel_of first_best
start_of sheet = start (kernel_of sheet) (first_best sheet)

-- the state word that a search names and a book says; `open` is reserved in this language, so its case is called
-- `unsettled`
pub data Standing : Type 0 where
  witnessed : Standing
  searched : Standing
  unsettled : Standing

-- `witnessed` if roles = w; else `searched` if finished; else `open`
abbrev pub standing_of : ℕ → ℕ → Bool → Standing
standing_of roles w finished = cond (eqb roles w) witnessed (cond finished searched unsettled)

-- w if open, else roles
abbrev pub bound_of : Standing → ℕ → ℕ → ℕ
bound_of witnessed roles w = roles
bound_of searched roles w = roles
bound_of unsettled roles w = w

-- how many roles a sheet has when the machine is in a state
unfoldable pub role_count : Sheet → State → ℕ
unfolding roles_of
role_count sheet st = (roles_of sheet st.best).count

unfoldable pub standing : Sheet → State → Standing
unfolding role_count witness
standing sheet st = standing_of (role_count sheet st) (witness_size sheet) st.finished

unfoldable pub bound : Sheet → State → ℕ
unfolding standing role_count witness
bound sheet st = bound_of (standing sheet st) (role_count sheet st) (witness_size sheet)
