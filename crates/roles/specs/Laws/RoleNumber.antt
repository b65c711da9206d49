-- Roles are numbered by their lowest grant: a grouping of the grants by their class.
use Rattle.std.specs.Prelude.{ℕ, ◌<◌, ◌≡◌, List, get_or}
use Rattle.std.proofs.Common.{lt_trans, sym}
use Rattle.spec.specs.Cover.{grant_at}
use Rattle.spec.specs.Roles.{Classed, class_of, class_at, role_numbers}
use Rattle.lists.specs.ListOfLaws.{length_list_of, getD_list_of}
use Rattle.lists.specs.KeyLaws.{same_key, by_key}
use Rattle.lists.specs.SameGrouping.{grouping_ext}
use Rattle.cell_rows.specs.CellPlaces.{grant_of}
use Rattle.roles.specs.CellClasses.{ClassAt, listed, CellsBelow}
use Rattle.roles.specs.RoleNumbers.{class_key}

module _ {class cells : List ℕ} {members : List Classed} (at : ClassAt class members) (n : ℕ)
    (below : CellsBelow n cells) where
  -- the class of a grant, by its number
  pub class_of_listed : (i : ℕ) → i < n → class_of members (grant_at (listed cells n) i) ≡ class_key class cells i
  class_of_listed i l =
      rw (getD_list_of n (λ j. grant_of (get_or cells j 0)) i (record { user = 0; permission = 0 }) l)
      (sym (at.shown (get_or cells i 0) (below.below i l)))

  -- role numbers are a grouping by class
  pub role_numbers_by_class : role_numbers (listed cells n) members ≡ by_key (class_key class cells) n
  role_numbers_by_class =
      rw (length_list_of n (λ j. grant_of (get_or cells j 0)))
      (grouping_ext (class_at (listed cells n) members) (same_key (class_key class cells)) n
      (λ i j k l. rw (class_of_listed i l, class_of_listed j (lt_trans k l))))
