-- Any classing can be renumbered by first appearance, with no more classes. The grouping that puts two numbers
-- together where their classes are one is grown, its classes are those of the classing, and there are no more of them
-- than numbers that a class can be. Assumes nothing.
use Rattle.std.specs.Prelude.{ℕ, ◌≤◌, ◌≡◌, Bool, List, length}
use Rattle.std.proofs.Common.{eqb-true}
use Rattle.spec.specs.Cover.{used, grouping}
use Rattle.lists.specs.Classing.{Valid, Grown, Classing}
use Rattle.lists.specs.PlacementLaws.{valid_mono}
use Rattle.lists.specs.GroupingLaws.{grouping_length, grouping_grown, grouping_valid}
use Rattle.lists.specs.KeyLaws.{same_key, grouping_used_le}

-- a placement of the first n numbers in at most count classes, numbered by first appearance
pub record Canonical (together : ℕ → ℕ → Bool) (n count : ℕ) : Type 0 where
  pub placement : List ℕ
  pub size : length placement ≡ n
  pub valid : Valid together placement
  pub grown : Grown placement
  pub used_le : used placement ≤ count

pub canonical : (together : ℕ → ℕ → Bool) (n count : ℕ) (class : ℕ → ℕ) → Classing together n count class
    → Canonical together n count
canonical together n count class classing = record {
  placement = grouping (same_key class) n;
  size = grouping_length (same_key class) n;
  valid =
      valid_mono (same_key class) together (grouping (same_key class) n)
      (λ i j k l e. classing.fitting i j k (rw (grouping_length (same_key class) n) at l)
      (eqb-true (class i) (class j) e))
      (grouping_valid (same_key class) n);
  grown = grouping_grown (same_key class) n;
  used_le = grouping_used_le class n count classing.within;
}
