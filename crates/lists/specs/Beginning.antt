-- One placement begins another: it holds the classes of the first numbers of it. As the latest stands first, what
-- begins a placement is the placement itself or begins its earlier part. What holds of a placement by its earlier
-- parts holds of all that begins it; and what begins a placement and is not the whole of it goes on there with some
-- class. Assumes nothing.
use Rattle.std.specs.Prelude.{ℕ, ◌≤◌, ◌≡◌, refl, ◌⊎◌, Bool, List, [], ◌∷◌, length}
use Rattle.std.proofs.Common.{inl, inr, le_of_eq, le_trans}
use Rattle.std.proofs.Math.Nat.{le_step}
use Rattle.spec.specs.Cover.{used}
use Rattle.lists.specs.Classing.{Valid, Grown}
use Rattle.lists.specs.PlacementLaws.{earlier_uses_fewer}

-- a part of the first numbers' classes begins a placement
abbrev pub Begins : List ℕ → List ℕ → Type 0
Begins part [] = part ≡ []
Begins part (a ∷ earlier) = (part ≡ a ∷ earlier) ⊎ Begins part earlier

pub begins_itself : (placed : List ℕ) → Begins placed placed
begins_itself [] = refl
begins_itself (a ∷ earlier) = inl refl

pub nothing_begins : (placed : List ℕ) → Begins [] placed
nothing_begins [] = refl
nothing_begins (a ∷ earlier) = inr (nothing_begins earlier)

-- the whole, or there is a next class
pub begins_and_goes_on : (part placed : List ℕ) → Begins part placed
    → (part ≡ placed) ⊎ ((c : ℕ) × Begins (c ∷ part) placed)
begins_and_goes_on part [] e = inl e
begins_and_goes_on part (a ∷ earlier) (inl e) = inl e
begins_and_goes_on part (a ∷ earlier) (inr b) = next (begins_and_goes_on part earlier b)
  where
    next : (part ≡ earlier) ⊎ ((c : ℕ) × Begins (c ∷ part) earlier)
        → (part ≡ a ∷ earlier) ⊎ ((c : ℕ) × Begins (c ∷ part) (a ∷ earlier))
    next (inl e) = inr (a, inl (rw e))
    next (inr n) = inr (n.0, inr n.1)

pub begins_length_le : (part placed : List ℕ) → Begins part placed → length part ≤ length placed
begins_length_le part [] e = le_of_eq (rw e)
begins_length_le part (a ∷ earlier) (inl e) = le_of_eq (rw e)
begins_length_le part (a ∷ earlier) (inr b) = le_step (begins_length_le part earlier b)

pub begins_used_le : (part placed : List ℕ) → Begins part placed → used part ≤ used placed
begins_used_le part [] e = le_of_eq (rw e)
begins_used_le part (a ∷ earlier) (inl e) = le_of_eq (rw e)
begins_used_le part (a ∷ earlier) (inr b) = le_trans (begins_used_le part earlier b) (earlier_uses_fewer a earlier)

pub begins_valid : (together : ℕ → ℕ → Bool) (part placed : List ℕ) → Begins part placed → Valid together placed
    → Valid together part
begins_valid together part [] e v = rw e v
begins_valid together part (a ∷ earlier) (inl e) v = rw e v
begins_valid together part (a ∷ earlier) (inr b) v = begins_valid together part earlier b v.1

pub begins_grown : (part placed : List ℕ) → Begins part placed → Grown placed → Grown part
begins_grown part [] e g = rw e g
begins_grown part (a ∷ earlier) (inl e) g = rw e g
begins_grown part (a ∷ earlier) (inr b) g = begins_grown part earlier b g.1
