-- What it means that the causes of what a sheet says, numbers 5, 8 and 9, do not apply: each cause is a test, and the
-- facts are what the test asks of the names and of the grants, in both directions. Assumes nothing.
use Rattle.std.specs.Prelude.{◌≤◌, ◌≡◌, ◌↔◌, Bool, false, ◌&&◌, not, length}
use Rattle.std.proofs.Common.{ap, ltb-false, le-ltb}
use Rattle.std.proofs.Math.Bool.{So}
use mathlib.Core.List.{Memᴰ}
use Rattle.std.proofs.lemmas.Bool.{not-false}
use Rattle.spec.specs.Vocabulary.{all, repeats}
use Rattle.spec.specs.Limits.{name_limit, grant_limit}
use Rattle.spec.specs.Text.{Bytes, same_name}
use Rattle.spec.specs.Sheet.{Sheet, grants}
use Rattle.spec.specs.Refusal.{has_name_length, bad_name, name_twice, too_many_grants}
use Rattle.bits.specs.Truth.{and_intro, and_left, and_right, or_fails, or_fails_left, or_fails_right}
use Rattle.lists.specs.TestLaws.{all_intro, all_elim}
use Rattle.text.specs.Laws.Lowered.{NamesApart, names_apart, apart_names}
use Rattle.text.specs.Laws.Byte.{between_intro, between_low, between_high}

-- a name of some bytes, no more than the limit
pub record Sized (name : Bytes) : Type 0 where
  pub some_byte : 1 ≤ length name
  pub short : length name ≤ name_limit

pub sized_name : (name : Bytes) → So (has_name_length name) ↔ Sized name
unfolding has_name_length
sized_name name = (
  λ p. record {
    some_byte = between_low 1 name_limit (length name) p;
    short = between_high 1 name_limit (length name)
        p;
  },
  λ s. between_intro 1 name_limit (length name) s.some_byte s.short,
)

-- 5: all names are of some bytes, no more than the limit
pub record SizedNames (sheet : Sheet) : Type 0 where
  pub permissions : (name : Bytes) → Memᴰ name sheet.permissions → Sized name
  pub users : (name : Bytes) → Memᴰ name sheet.users → Sized name

pub sized_names : (sheet : Sheet) → (bad_name sheet ≡ false) ↔ SizedNames sheet
unfolding bad_name
sized_names sheet = (read, written)
  where
    front : Bool
    front = all has_name_length sheet.permissions

    back : Bool
    back = all has_name_length sheet.users

    read : bad_name sheet ≡ false → SizedNames sheet
    read e =
        let both : So (front && back) = not-false (front && back) e in
        record {
          permissions = λ name m. (sized_name name).0 (all_elim has_name_length sheet.permissions
              (and_left front back both) m);
          users = λ name m. (sized_name name).0 (all_elim has_name_length sheet.users (and_right front back both) m);
        }

    written : SizedNames sheet → bad_name sheet ≡ false
    written s =
        ap not (and_intro front back (all_intro has_name_length sheet.permissions
        (λ name m. (sized_name name).1 (s.permissions name m)))
        (all_intro has_name_length sheet.users (λ name m. (sized_name name).1 (s.users name m))))

-- 8: no two users and no two permissions have equal names
pub record DistinctNames (sheet : Sheet) : Type 0 where
  pub users : NamesApart sheet.users
  pub permissions : NamesApart sheet.permissions

pub distinct_names : (sheet : Sheet) → (name_twice sheet ≡ false) ↔ DistinctNames sheet
unfolding name_twice
distinct_names sheet = (read, written)
  where
    front : Bool
    front = repeats same_name sheet.users

    back : Bool
    back = repeats same_name sheet.permissions

    read : name_twice sheet ≡ false → DistinctNames sheet
    read e =
        record {
          users = names_apart sheet.users (or_fails_left front back e);
          permissions = names_apart sheet.permissions (or_fails_right front back e);
        }

    written : DistinctNames sheet → name_twice sheet ≡ false
    written d =
        or_fails front back (apart_names sheet.users d.users) (apart_names sheet.permissions d.permissions)

-- 9: at most as many grants as the limit
pub few_grants : (sheet : Sheet) → (too_many_grants sheet ≡ false) ↔ (length (grants sheet) ≤ grant_limit)
unfolding too_many_grants
few_grants sheet = (ltb-false grant_limit (length (grants sheet)), le-ltb grant_limit (length (grants sheet)))
