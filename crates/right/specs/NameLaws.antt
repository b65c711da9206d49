-- The names of a sheet as the checker uses them: each can stand as a field, and each says its own number in whatever
-- case it is spelled, since the lowest place of a name is the only one where no two names are equal.
use Rattle.std.specs.Prelude.{ℕ, ◌≤◌, ◌<◌, ◌≡◌, ◌⊎◌, Bool, false, length, get_or}
use Rattle.std.proofs.Common.{sym, ap, ◌∙◌, inl, inr}
use Rattle.std.proofs.Math.Bool.{So}
use mathlib.Core.List.{List, [], Memᴰ}
use Rattle.std.proofs.Math.Option
use Rattle.spec.specs.Text.{Bytes, name_byte, lowered, same_name}
use Rattle.spec.specs.Sheet.{Sheet}
use Rattle.spec.specs.Rules.{Names}
use Rattle.spec.specs.Form.{known, number_among}
use Rattle.bits.specs.Truth.{not_both, fails_unless}
use Rattle.bits.specs.Counting.{Lowest}
use Rattle.bits.specs.Laws.Lowest.{lowest_below_intro, lowest_below_cases}
use Rattle.lists.specs.TestLaws.{all_intro, any_intro, any_elim, member_at, place_of}
use Rattle.text.specs.Laws.Text.{Field}
use Rattle.text.specs.Laws.Lowered.{NamesApart, same_name_elim, same_name_intro}
use Rattle.right.specs.WordLaws.{name_bytes_field}

-- a name that can stand as the first field of a line: it has a byte, and neither comma nor line feed stands in it
pub record GoodName (name : Bytes) : Type 0 where
  pub some_byte : 1 ≤ length name
  pub field : Field name

-- such names, of which no two are equal
pub record GoodNames (names : List Bytes) : Type 0 where
  pub each : (name : Bytes) → Memᴰ name names → GoodName name
  pub distinct : NamesApart names

-- a sheet with such names, as every accepted sheet has
pub record GoodSheet (sheet : Sheet) : Type 0 where
  pub users : GoodNames sheet.users
  pub permissions : GoodNames sheet.permissions

-- the names that the sheet's rules allow are such names
pub good_names : {names : List Bytes} → Names names → GoodNames names
good_names {names} n = record { each = good; distinct = n.distinct }
  where
    good : (name : Bytes) → Memᴰ name names → GoodName name
    good name m =
        let r = n.each name m in
        record { some_byte = r.some_byte; field = name_bytes_field name (all_intro name_byte name r.spelled) }

-- ---- the number of a name

-- where a name stands among names, in whatever case
pub record StandsAt (names : List Bytes) (name : Bytes) (place : ℕ) : Type 0 where
  pub within : place < length names
  pub there : lowered (get_or names place []) ≡ lowered name

pub known_stands : (names : List Bytes) (name : Bytes) → So (known names name)
    → StandsAt names name (number_among names name)
known_stands names name e = choose (lowest_below_cases (length names) test)
  where
    test : ℕ → Bool
    test i = same_name name (get_or names i [])

    choose : ((i : ℕ) × Lowest (length names) test i) ⊎ ((i : ℕ) → i < length names → test i ≡ false)
        → StandsAt names name (number_among names name)
    choose (inl w) =
        rw (lowest_below_intro (length names) test w.1)
        (record { within = w.1.within; there = sym (same_name_elim name (get_or names w.0 []) w.1.holds) })
    choose (inr h) =
        let r = any_elim (same_name name) names e in
        let at = place_of names [] r.member in
        absurd (not_both r.passes (rw at.there at (h at.place at.within)))

pub known_at : (names : List Bytes) (i : ℕ) → i < length names → (name : Bytes) → lowered name ≡ lowered
    (get_or names i [])
    → So (known names name)
known_at names i h name e =
    any_intro (same_name name) names (member_at names i [] h) (same_name_intro name (get_or names i []) e)

pub number_among_at : (names : List Bytes) → GoodNames names → (i : ℕ) → i < length names → (name : Bytes)
    → lowered name ≡ lowered (get_or names i [])
    → number_among names name ≡ i
number_among_at names good i h name e =
    ap (λ found. Option.get_or found 0) (lowest_below_intro (length names) test here)
  where
    test : ℕ → Bool
    test j = same_name name (get_or names j [])

    here : Lowest (length names) test i
    here =
        record {
          within = h;
          holds = same_name_intro name (get_or names i []) e;
          first = λ j l.
              fails_unless (test j) (λ p. good.distinct j i l h (sym (same_name_elim name (get_or names j []) p) ∙ e));
        }
