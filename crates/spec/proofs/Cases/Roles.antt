-- State, bound and roles on small sheets, computed from the definitions. Three users of whom the third holds all: the
-- class opened first, by the single (1,2) put back first, has (1,1) as its lowest grant, and the other has (0,0); so
-- the first becomes R2. Then the product of these roles, role after role.
use Rattle.spec.specs.Vocabulary.{ℕ, suc, Bool, true, false, List, [], lowest_below, list_of}
use Rattle.std.specs.Prelude.{◌≡◌, refl, ◌∷◌}
use Rattle.spec.specs.Text.{ascii}
use Rattle.spec.specs.Sheet.{Sheet}
use Rattle.spec.specs.Reduction.{reduction}
use Rattle.spec.specs.RoleSet.{RoleSet, cell_after, or_over_roles}
use Rattle.spec.specs.Roles.{Standing, witnessed, searched, unsettled, classes_of, standing_of, bound_of}
use Rattle.spec.specs.Roles.{roles_of}

-- what four roles say with three or four witness grants, before and after the search is finished
record Says : Type 0 where
  standing : Standing
  bound : ℕ

says : ℕ → Bool → Says
says w finished = record { standing = standing_of 4 w finished; bound = bound_of (standing_of 4 w finished) 4 w }

standings : says 3 false ∷ says 3 true ∷ says 4 false ∷ says 4 true ∷ []
    ≡ record { standing = unsettled; bound = 3 }
    ∷ record { standing = searched; bound = 4 }
    ∷ record { standing = witnessed; bound = 4 }
    ∷ record { standing = witnessed; bound = 4 }
    ∷ []
unfolding says
standings = refl

-- the worked example's sheet; its kernel is empty, and so is the placement
worked : Sheet
worked =
    record {
      users = ascii "ann" ∷ ascii "bo" ∷ ascii "cy" ∷ [];
      permissions = ascii "rec" ∷ ascii "id" ∷ ascii "map" ∷ [];
      rows = (true ∷ true ∷ false ∷ []) ∷ (false ∷ true ∷ true ∷ []) ∷ (true ∷ true ∷ true ∷ []) ∷ [];
    }

-- a role set as two tables
record Tables : Type 0 where
  count : ℕ
  has : List (List Bool)
  gives : List (List Bool)

tables : ℕ → ℕ → RoleSet → Tables
tables users permissions roles =
    record {
      count = roles.count;
      has = list_of users (λ u. list_of roles.count (roles.has u));
      gives = list_of roles.count (λ r. list_of permissions (roles.gives r));
    }

worked_roles : tables 3 3 (roles_of worked [])
    ≡ record {
      count = 2;
      has = (true ∷ false ∷ []) ∷ (false ∷ true ∷ []) ∷ (true ∷ true ∷ []) ∷ [];
      gives = (true ∷ true ∷ false ∷ []) ∷ (false ∷ true ∷ true ∷ []) ∷ [];
    }
unfolding tables roles_of reduction classes_of worked lowest_below
worked_roles = refl

-- what the cells of each user are after no role, after one, and so on to all; `after` says what a cell has after r roles
steps : (RoleSet → ℕ → ℕ → ℕ → Bool) → ℕ → ℕ → RoleSet → List (List (List Bool))
steps after users permissions roles =
    list_of users (λ u. list_of (suc roles.count) (λ r. list_of permissions (λ p. after roles u p r)))

-- ann has R1 alone, bo has R2 alone, cy has both: a user's row after no role, after R1, and after R1 and R2
worked_steps : List (List (List Bool))
worked_steps =
    ((false ∷ false ∷ false ∷ []) ∷ (true ∷ true ∷ false ∷ []) ∷ (true ∷ true ∷ false ∷ []) ∷ [])
    ∷ ((false ∷ false ∷ false ∷ []) ∷ (false ∷ false ∷ false ∷ []) ∷ (false ∷ true ∷ true ∷ []) ∷ [])
    ∷ ((false ∷ false ∷ false ∷ []) ∷ (true ∷ true ∷ false ∷ []) ∷ (true ∷ true ∷ true ∷ []) ∷ [])
    ∷ []

worked_cells_after : steps cell_after 3 3 (roles_of worked []) ≡ worked_steps
unfolding steps worked_steps roles_of reduction classes_of worked lowest_below cell_after
worked_cells_after = refl

-- the "or" over roles 1 to r says the same
worked_or : steps or_over_roles 3 3 (roles_of worked []) ≡ worked_steps
unfolding steps worked_steps roles_of reduction classes_of worked lowest_below
worked_or = refl
