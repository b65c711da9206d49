-- The names of a sheet are the bytes between their places, and short; a role's name has two bytes up to `R9`, three
-- up to `R99` and four up to `R999`.
use Rattle.std.specs.Prelude.{ℕ, zero, suc, ◌+◌, ◌-◌, ◌*◌, ◌/◌, ◌≤◌, ◌<◌, ◌≡◌, List, [], length, get_or, drop}
use Rattle.std.proofs.Common.{add-zero, suc-mul, arith, sym, ap, ◌∙◌, length-drop, length-take-le}
use Rattle.spec.specs.Limits.{user_limit, permission_limit, name_limit}
use Rattle.spec.specs.Text.{Bytes}
use Rattle.spec.specs.Sheet.{sheet_of, user_count, permission_count, user_name, permission_name}
use Rattle.spec.specs.Book.{role_name}
use Rattle.bits.specs.Counting.{sum_below}
use Rattle.bits.specs.Laws.Sum.{sum_below_ext, sum_below_le}
use Rattle.rules.specs.AcceptedFacts.{Lawful, accepted_lawful}
use Rattle.names.specs.LaidOut.{UsersAt, PermissionsAt}
use Rattle.places.specs.Places.{from_at, to_at, Part, NamesPlaced}
use Rattle.decimal.specs.Laws.Digit.{one_digit, digit_more}
use Rattle.book_lines.specs.Laws.Name.{role_name_parts, role_name_short}
use Rattle.book_length.specs.NameBytes.{PlacesShort, bytes_at, role_name_bytes}

-- ---- the names of a sheet

-- a part has the bytes between its places
part_length : {text : Bytes} {from to : ℕ} {bytes : Bytes} → Part text from to bytes → to - from ≡ length bytes
part_length {text} {from} {to} p =
    sym (length-take-le (to - from) (drop from text)
    (rw (length-drop from text) (omega (arith, p.forward, p.within))))
    ∙ ap length p.reads

module _ {text : Bytes} {places : List ℕ} {names : List Bytes} (at : NamesPlaced text places names)
    (few : length names ≤ user_limit) (short : (i : ℕ) → i < length names → length (get_or names i []) ≤ name_limit) where
  placed : (i : ℕ) → i < length places → Part text (from_at places i) (to_at places i) (get_or names i [])
  placed i h = at.placed.each i (omega (arith, at.total))

  names_short : PlacesShort places
  names_short = record {
    few = omega (arith, at.total);
    forward = λ i h. (placed i h).forward;
    short = λ i h. omega (arith, part_length (placed i h), short i (omega (arith, at.total)));
  }

  names_bytes : bytes_at places ≡ sum_below (length names) (λ i. length (get_or names i []))
  names_bytes =
      sum_below_ext (length places) _ _ (λ i h. part_length (placed i h))
      ∙ ap (λ (n : ℕ). sum_below n (λ i. length (get_or names i []))) at.total

module _ {text : Bytes} {places : List ℕ} (at : UsersAt text places) where
  lawful : Lawful (sheet_of text)
  lawful = accepted_lawful text at.accepts

  pub user_short : (u : ℕ) → u < user_count (sheet_of text) → length (user_name (sheet_of text) u) ≤ name_limit
  unfolding name_limit
  user_short u h = (lawful.user_name u h).short

  pub users_short : PlacesShort places
  users_short = names_short at.names lawful.few_users user_short

  pub users_bytes : bytes_at places ≡ sum_below (user_count (sheet_of text)) (λ u. length (user_name (sheet_of text) u))
  users_bytes = names_bytes at.names lawful.few_users user_short

module _ {text : Bytes} {places : List ℕ} (at : PermissionsAt text places) where
  permissions_lawful : Lawful (sheet_of text)
  permissions_lawful = accepted_lawful text at.accepts

  pub permission_short : (p : ℕ) → p < permission_count (sheet_of text)
      → length (permission_name (sheet_of text) p) ≤ name_limit
  unfolding name_limit
  permission_short p h = (permissions_lawful.permission_name p h).short

  few_enough : permission_count (sheet_of text) ≤ user_limit
  unfolding permission_limit user_limit
  few_enough = omega (arith, permissions_lawful.few_permissions)

  pub permissions_short : PlacesShort places
  permissions_short = names_short at.names few_enough permission_short

  pub permissions_bytes : bytes_at places
      ≡ sum_below (permission_count (sheet_of text)) (λ p. length (permission_name (sheet_of text) p))
  permissions_bytes = names_bytes at.names few_enough permission_short

-- the bytes at the first places
pub bytes_below : {places : List ℕ} → PlacesShort places → (i : ℕ) → i ≤ length places
    → sum_below i (λ j. to_at places j - from_at places j) ≤ i * name_limit
bytes_below s i h = sum_below_le i name_limit _ (λ j l. s.short j (omega arith))

-- all of them
pub bytes_small : {places : List ℕ} → PlacesShort places → bytes_at places ≤ 4_096
unfolding user_limit name_limit
bytes_small {places} s = omega (arith, s.few, bytes_below s (length places) (omega arith))

-- ---- the names of roles

role_name_two : (r : ℕ) → r < 9 → length (role_name r) ≡ 2
role_name_two r h = ap length (role_name_parts r) ∙ omega (arith, one_digit (r + 1) (omega arith))

role_name_three : (r : ℕ) → 9 ≤ r → r < 99 → length (role_name r) ≡ 3
role_name_three r h k =
    ap length (role_name_parts r)
    ∙ omega (arith, digit_more (r + 1) (omega arith), one_digit ((r + 1) / 10) (omega arith))

role_name_four : (r : ℕ) → 99 ≤ r → r < 999 → length (role_name r) ≡ 4
role_name_four r h k =
    ap length (role_name_parts r)
    ∙ omega (
      arith,
      digit_more (r + 1) (omega arith),
      digit_more ((r + 1) / 10) (omega arith),
      one_digit ((r + 1) / 10 / 10) (omega arith),
    )

-- k roles more, whose names have the same length
roles_more : (n each k : ℕ) → ((r : ℕ) → n ≤ r → r < n + k → length (role_name r) ≡ each)
    → role_name_bytes (n + k) ≡ role_name_bytes n + k * each
unfolding sum_below
roles_more n each zero h = rw (add-zero n) (omega arith)
roles_more n each (suc k) h =
    let next : n + suc k ≡ suc (n + k) = omega arith in
    ap role_name_bytes next
    ∙ omega (
      arith,
      suc-mul k each,
      roles_more n each k (λ r l m. h r l (omega arith)),
      h (n + k) (omega arith) (omega arith),
    )

-- the names up to `R9`, up to `R99` and up to `R999`
pub role_bytes_two : (n : ℕ) → n ≤ 9 → role_name_bytes n ≡ 2 * n
unfolding sum_below
role_bytes_two n h =
    let whole : n ≡ 0 + n = omega arith in
    ap role_name_bytes whole ∙ roles_more 0 2 n (λ r l m. role_name_two r (omega arith)) ∙ omega arith

pub role_bytes_three : (n : ℕ) → 9 ≤ n → n ≤ 99 → role_name_bytes n ≡ 3 * n - 9
role_bytes_three n h k =
    let whole : n ≡ 9 + (n - 9) = omega arith in
    ap role_name_bytes whole
    ∙ roles_more 9 3 (n - 9) (λ r l m. role_name_three r l (omega arith))
    ∙ omega (arith, role_bytes_two 9 (omega arith))

pub role_bytes_four : (n : ℕ) → 99 ≤ n → n ≤ 999 → role_name_bytes n ≡ 4 * n - 108
role_bytes_four n h k =
    let whole : n ≡ 99 + (n - 99) = omega arith in
    ap role_name_bytes whole
    ∙ roles_more 99 4 (n - 99) (λ r l m. role_name_four r l (omega arith))
    ∙ omega (arith, role_bytes_three 99 (omega arith) (omega arith))

pub role_bytes_small : (n : ℕ) → n ≤ 999 → role_name_bytes n ≤ n * 4
role_bytes_small n h = sum_below_le n 4 (λ r. length (role_name r)) (λ r l. role_name_short r (omega arith))
