-- A written book is no longer than the checker takes: its length is the sum over its blocks, lines and fields, and
-- each field, line and block is at most as long as the limits of names, users, permissions and roles allow.
use Rattle.std.specs.Prelude.{ℕ, suc, ◌+◌, ◌*◌, ◌≤◌, ◌<◌, ◌≡◌, Bool, true, false, List, [], ◌∷◌, map, length, get_or}
use Rattle.std.proofs.Common.{suc-le-suc, le_trans, arith, ⊎_elim, lit≤}
use Rattle.std.proofs.lemmas.List.{length-map}
use Rattle.std.proofs.Math.ListN.{get_or-eq_default}
use Rattle.spec.specs.Vocabulary.{list_of}
use Rattle.spec.specs.Limits.{permission_limit, user_limit, name_limit, book_limit, role_limit}
use Rattle.spec.specs.Text.{ascii, Bytes, Line}
use Rattle.spec.specs.Sheet.{Sheet, Grant, cell_text, user_count, permission_count, user_name, permission_name}
use Rattle.spec.specs.RoleSet.{RoleSet}
use Rattle.spec.specs.Roles.{Standing, witnessed, searched, unsettled}
use Rattle.spec.specs.Decimal.{decimal}
use Rattle.spec.specs.Book.{standing_word, role_name, Said, counts_block, roles_block, users_block, witness_line}
use Rattle.spec.specs.Book.{witness_block, blocks_saying, book_text}
use Rattle.bits.specs.Laws.Below.{below_or_from}
use Rattle.lists.specs.TestLaws.{member_at}
use Rattle.lists.specs.ListOfLaws.{length_list_of}
use Rattle.lists.specs.EachLaws.{Each, each_listed, each_mapped}
use Rattle.lists.specs.Total.{total, total_le}
use Rattle.decimal.specs.Laws.Decimal.{decimal_length_three}
use Rattle.right.specs.WordLaws.{role_name_parts}
use Rattle.right.specs.LengthLaws.{field_length, line_length, block_length, line_length_fields, blocks_length}

-- the length of a written book is the length of its blocks, and one more for each empty line between them
pub book_length : (sheet : Sheet) (book : Said)
    → length (book_text sheet book)
    ≡ block_length (counts_block book.count book.bound book.standing)
    + suc (block_length (roles_block sheet.permissions book.roles))
    + suc (block_length (users_block sheet.users book.roles))
    + suc (block_length (witness_block (map (witness_line sheet) book.witness)))
unfolding book_text blocks_saying
book_length sheet book =
    rw (blocks_length (counts_block book.count book.bound book.standing)
    (roles_block sheet.permissions book.roles ∷ users_block sheet.users book.roles
    ∷ witness_block (map (witness_line sheet) book.witness) ∷ []))
    (omega arith)

-- ---- within the limits

-- the most digits of a number of roles
unfoldable pub most_digits : ℕ
most_digits = 3

-- a book and a sheet within the limits
pub record Small (sheet : Sheet) (book : Said) : Type 0 where
  pub few_users : user_count sheet ≤ user_limit
  pub few_permissions : permission_count sheet ≤ permission_limit
  pub short_users : Each (λ name. length name ≤ name_limit) sheet.users
  pub short_permissions : Each (λ name. length name ≤ name_limit) sheet.permissions
  pub few_roles : book.roles.count ≤ role_limit
  pub few_lines : length book.witness ≤ role_limit
  pub short_count : length (decimal book.count) ≤ most_digits
  pub short_bound : length (decimal book.bound) ≤ most_digits

pub short_decimal : (n : ℕ) → n ≤ role_limit → length (decimal n) ≤ most_digits
unfolding most_digits role_limit permission_limit
short_decimal n h = decimal_length_three n (omega arith)

-- `R` and the digits
short_role_name : (r : ℕ) → r < role_limit → length (role_name r) ≤ suc most_digits
short_role_name r h = rw (role_name_parts r) (suc-le-suc (short_decimal (suc r) h))

short_standing : (s : Standing) → length (standing_word s) ≤ 9
short_standing witnessed = omega arith
short_standing searched = omega arith
short_standing unsettled = omega arith

-- a name by its number; there is none past the last
short_name : (names : List Bytes) → Each (λ name. length name ≤ name_limit) names → (i : ℕ) → length (get_or names i [])
    ≤ name_limit
short_name names each i =
    ⊎_elim (λ h. each (get_or names i []) (member_at names i [] h)) (λ h. rw (get_or-eq_default names [] {n = i} h)
    (omega arith))
    (below_or_from i (length names))

cells_length : (count most : ℕ) (cell : ℕ → Bool) → count ≤ most
    → total field_length (list_of count (λ i. cell_text (cell i))) ≤ most * 2
cells_length count most cell h =
    total_le field_length most 2 (list_of count (λ i. cell_text (cell i)))
    (rw (length_list_of count (λ i. cell_text (cell i))) h)
    (each_listed (λ field. field_length field ≤ 2) count (λ i. cell_text (cell i)) (λ i l. short_cell (cell i)))
  where
    short_cell : (cell : Bool) → field_length (cell_text cell) ≤ 2
    short_cell true = omega arith
    short_cell false = omega arith

-- ---- block by block

counts_length : (count bound : ℕ) (s : Standing) → length (decimal count) ≤ most_digits → length (decimal bound) ≤
    most_digits
    → block_length (counts_block count bound s) ≤ 28 + 2 * suc most_digits
counts_length count bound s h k =
    rw (
      line_length_fields (ascii "roles") (ascii "bound" ∷ ascii "state" ∷ []),
      line_length_fields (decimal count) (decimal bound ∷ standing_word s ∷ []),
    )
    (omega (arith, short_standing s))

-- each role line: a role name and a cell for each permission
roles_length : (sheet : Sheet) (roles : RoleSet) → permission_count sheet ≤ permission_limit
    → Each (λ name. length name ≤ name_limit) sheet.permissions → roles.count ≤ role_limit
    → block_length (roles_block sheet.permissions roles) ≤ 5 + permission_limit * suc name_limit + role_limit *
    (2 + most_digits + permission_limit * 2)
roles_length sheet roles few short-names few_roles =
    rw (line_length_fields (ascii "role") sheet.permissions)
    (omega (arith, names, lines))
  where
    line : ℕ → Line
    line r = role_name r ∷ list_of (permission_count sheet) (λ p. cell_text (roles.gives r p))

    names : total field_length sheet.permissions ≤ permission_limit * suc name_limit
    names = total_le field_length permission_limit (suc name_limit) sheet.permissions few
        (λ name m. suc-le-suc (short-names name m))

    short_line : (r : ℕ) → r < roles.count → line_length (line r) ≤ 2 + most_digits + permission_limit * 2
    short_line r h =
        rw (line_length_fields (role_name r) (list_of (permission_count sheet) (λ p. cell_text (roles.gives r p))))
        (omega (
          arith,
          short_role_name r (omega arith),
          cells_length (permission_count sheet) permission_limit
              (roles.gives r) few,
        ))

    lines : block_length (list_of roles.count line) ≤ role_limit * (2 + most_digits + permission_limit * 2)
    lines =
        total_le line_length role_limit (2 + most_digits + permission_limit * 2) (list_of roles.count line)
        (rw (length_list_of roles.count line) few_roles)
        (each_listed (λ l. line_length l ≤ 2 + most_digits + permission_limit * 2) roles.count line short_line)

-- each user line: a user name and a cell for each role
users_length : (sheet : Sheet) (roles : RoleSet) → user_count sheet ≤ user_limit
    → Each (λ name. length name ≤ name_limit) sheet.users
    → roles.count ≤ role_limit
    → block_length (users_block sheet.users roles) ≤ 5 + role_limit * (2 + most_digits) + user_limit *
    (suc name_limit + role_limit * 2)
users_length sheet roles few short-names few_roles =
    rw (line_length_fields (ascii "user") (list_of roles.count role_name))
    (omega (arith, names, lines))
  where
    line : ℕ → Line
    line u = user_name sheet u ∷ list_of roles.count (λ r. cell_text (roles.has u r))

    names : total field_length (list_of roles.count role_name) ≤ role_limit * (2 + most_digits)
    names =
        total_le field_length role_limit (2 + most_digits) (list_of roles.count role_name)
        (rw (length_list_of roles.count role_name) few_roles)
        (each_listed (λ field. field_length field ≤ 2 + most_digits) roles.count role_name
        (λ r h. omega (arith, short_role_name r (omega arith))))

    short_line : (u : ℕ) → u < user_count sheet → line_length (line u) ≤ suc name_limit + role_limit * 2
    short_line u h =
        rw (line_length_fields (user_name sheet u) (list_of roles.count (λ r. cell_text (roles.has u r))))
        (omega (
          arith,
          short_name sheet.users short-names u,
          cells_length roles.count role_limit (roles.has u)
              few_roles,
        ))

    lines : block_length (list_of (user_count sheet) line) ≤ user_limit * (suc name_limit + role_limit * 2)
    lines =
        total_le line_length user_limit (suc name_limit + role_limit * 2) (list_of (user_count sheet) line)
        (rw (length_list_of (user_count sheet) line) few)
        (each_listed (λ l. line_length l ≤ suc name_limit + role_limit * 2) (user_count sheet) line short_line)

-- each witness line: two names
witness_length : (sheet : Sheet) (grants : List Grant) → Each (λ name. length name ≤ name_limit) sheet.users
    → Each (λ name. length name ≤ name_limit) sheet.permissions → length grants ≤ role_limit
    → block_length (witness_block (map (witness_line sheet) grants)) ≤ 16 + role_limit * (2 * suc name_limit)
witness_length sheet grants short_users short_permissions few =
    rw (line_length_fields (ascii "user") (ascii "permission" ∷ []))
    (omega (arith, lines))
  where
    short_line : (g : Grant) → line_length (witness_line sheet g) ≤ 2 * suc name_limit
    short_line g =
        rw (line_length_fields (user_name sheet g.user) (permission_name sheet g.permission ∷ []))
        (omega (
          arith,
          short_name sheet.users short_users g.user,
          short_name sheet.permissions
              short_permissions g.permission,
        ))

    lines : block_length (map (witness_line sheet) grants) ≤ role_limit * (2 * suc name_limit)
    lines =
        total_le line_length role_limit (2 * suc name_limit) (map (witness_line sheet) grants)
        (rw (length-map grants (witness_line sheet)) few)
        (each_mapped (λ l. line_length l ≤ 2 * suc name_limit) (witness_line sheet) grants (λ g m. short_line g))

-- ---- the whole book

-- the sum of what the four blocks may take
longest : ℕ
longest =
    28 + 2 * suc most_digits
    + suc (5 + permission_limit * suc name_limit + role_limit * (2 + most_digits + permission_limit * 2))
    + suc (5 + role_limit * (2 + most_digits) + user_limit * (suc name_limit + role_limit * 2))
    + suc (16 + role_limit * (2 * suc name_limit))

longest_within : longest ≤ book_limit
unfolding longest most_digits permission_limit user_limit name_limit role_limit book_limit
longest_within = lit≤ tt

pub book_within_limit : (sheet : Sheet) (book : Said) → Small sheet book → length (book_text sheet book) ≤ book_limit
unfolding longest
book_within_limit sheet book s =
    le_trans
    (rw (book_length sheet book)
    (omega (
      arith,
      counts_length book.count book.bound book.standing s.short_count s.short_bound,
      roles_length sheet book.roles s.few_permissions s.short_permissions s.few_roles,
      users_length sheet book.roles s.few_users s.short_users s.few_roles,
      witness_length sheet book.witness s.short_users s.short_permissions s.few_lines,
    )))
    longest_within
