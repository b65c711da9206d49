-- Small sheets on which a slip in the reduction or the witness would give another answer, computed from the
-- definitions. One user with two ones: each grant dominates the other, and only the first may go. Two such users:
-- (0,1) and (1,0) fit though (0,0) is gone. Three users each lacking only their own permission: each grant fits
-- another and none dominates one. Names do not matter here.
use Rattle.spec.specs.Vocabulary.{ℕ, Bool, true, false, List, [], map}
use Rattle.std.specs.Prelude.{◌≡◌, refl, ◌∷◌}
use Rattle.spec.specs.Text.{ascii}
use Rattle.spec.specs.Sheet.{Sheet, Grant}
use Rattle.spec.specs.Reduction.{Removal, single, tied, reduction}
use Rattle.spec.specs.Witness.{witness}

-- a sheet of these rows
with_rows : List (List Bool) → Sheet
with_rows rows = record { users = map (λ row. ascii "u") rows; permissions = ascii "a" ∷ ascii "b" ∷ []; rows = rows }

-- what is computed of a sheet
record Reduced : Type 0 where
  removed : List Removal
  kernel : List Grant
  witness : List Grant

reduced : List (List Bool) → Reduced
unfolding reduction witness with_rows
reduced rows =
    let sheet : Sheet = with_rows rows in
    record { removed = (reduction sheet).removed; kernel = (reduction sheet).remaining; witness = witness sheet }

-- the grant of a user and a permission
at : ℕ → ℕ → Grant
at u p = record { user = u; permission = p }

both : List Bool
both = true ∷ true ∷ []

crown : List (List Bool)
crown = (false ∷ true ∷ true ∷ []) ∷ (true ∷ false ∷ true ∷ []) ∷ (true ∷ true ∷ false ∷ []) ∷ []

cases : map reduced ((both ∷ []) ∷ (both ∷ both ∷ []) ∷ crown ∷ [])
    ≡ record { removed = single (at 0 1) ∷ tied (at 0 0) (at 0 1) ∷ []; kernel = []; witness = at 0 1 ∷ [] }
    ∷ record {
      removed = single (at 1 1) ∷ tied (at 1 0) (at 1 1) ∷ tied (at 0 1) (at 1 0) ∷ tied (at 0 0) (at 0 1) ∷ [];
      kernel = [];
      witness = at 1 1 ∷ [];
    }
    ∷ record {
      removed = [];
      kernel = at 0 1 ∷ at 0 2 ∷ at 1 0 ∷ at 1 2 ∷ at 2 0 ∷ at 2 1 ∷ [];
      witness = at 0 1 ∷ at 1 2 ∷ at 2 0 ∷ [];
    }
    ∷ []
unfolding reduced at both crown
cases = refl
