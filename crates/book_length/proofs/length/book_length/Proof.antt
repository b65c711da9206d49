-- `length::book_length`: each summand is what the law of the book's length says, and the limits of a sheet keep the
-- sum small.
use borrow.Author.Rules.{rules}
use Prim.Native.Nat.{ℕ, ◌+◌, ◌*◌, ◌^◌, ◌≤◌, ◌<◌}
use native.Mathlib.Omega.{arith}
use mathlib.Core.Path.{◌∙◌}
use Rattle.spec.specs.Limits.{user_limit}
use Rattle.cell_rows.specs.Rows.{row_words, row_bits}
use Rattle.names.specs.LaidOut.{UsersAt, PermissionsAt}
use Rattle.names.specs.declared.layout.Layout.{Layout}
use Rattle.blocks.specs.Laws.Laid.{few_users, laid_permissions_fit}
use Rattle.book_length.specs.Laws.NameBytes.{bytes_small, role_bytes_small, users_short, permissions_short}
use Rattle.book_length.specs.Laws.NameBytes.{users_bytes, permissions_bytes}
use Rattle.book_length.specs.Laws.Placed.{users_placed, permissions_placed, users_lent, permissions_lent}
use Rattle.book_length.specs.Laws.Placed.{cells_small}
use Rattle.book_length.specs.Laws.BookMeasured.{book_sum}
use Rattle.book_length.proofs.length.book_length.Statement.{statement}
use Rattle.book_length.proofs.length.book_length.Tie as tie

-- the layout, which the function keeps where it can be lent
abbrev layout : tie.Start → Layout
layout s = s.args.layout

abbrev begun : tie.After-first_places-user_places → tie.Start
begun c = c.before.before.before.before.before

-- where the names of the sheet are counted, and those of the roles
abbrev counted : tie.After-bytes_at-2 → tie.Start
counted c =
    let placed = c.before.before in
    begun placed.before.before.before

abbrev named : tie.After-role_names_length → tie.Start
named c = counted c.before

first_places_requires : tie.Need-first_places-user_places-requires
first_places_requires c κs = users_placed c.requires.0

first_places_requires_2 : tie.Need-first_places-permission_places-requires
first_places_requires_2 c κs = permissions_placed (begun c.before.before).requires.0

-- the places of the names
users_at : (c : tie.After-first_places-permission_places)
    → UsersAt (begun c.before.before.before).args.s.now c.first_places-user_places.result.now
users_at c = users_lent (begun c.before.before.before).requires.0 c.first_places-user_places.ensures

permissions_at : (c : tie.After-first_places-permission_places)
    → PermissionsAt (begun c.before.before.before).args.s.now c.first_places-permission_places.result.now
permissions_at c = permissions_lent (begun c.before.before.before).requires.0 c.first_places-permission_places.ensures

-- the names, and the lines, within their bounds
names_small : (c : tie.After-bytes_at-2) → c.bytes_at.result + c.bytes_at-2.result ≤ 8_192
names_small c =
    omega (
      arith,
      c.bytes_at.ensures,
      bytes_small (users_short (users_at c.before.before)),
      c.bytes_at-2.ensures,
      bytes_small (permissions_short (permissions_at c.before.before)),
    )

roles_small : (c : tie.After-role_names_length) → c.role_names_length.result ≤ 4 * row_bits
unfolding row_bits row_words
roles_small c =
    let s = named c in
    omega (
      arith,
      c.role_names_length.ensures,
      s.requires.1,
      role_bytes_small s.args.counts.roles (omega (arith, s.requires.1)),
    )

lines_small : (s : tie.Start)
    → let roles = s.args.counts.roles in
    (roles ≤ row_bits) × ((layout s).permissions ≤ row_bits)
    × (roles * (2 * (layout s).permissions + 1) ≤ row_bits * (2 * row_bits + 1))
    × ((layout s).users * (2 * roles + 1) ≤ user_limit * (2 * row_bits + 1))
unfolding row_bits row_words user_limit
lines_small s =
    let fit = laid_permissions_fit s.requires.0 in
    let roles = cells_small (layout s).permissions s.requires.1 in
    let users = cells_small s.args.counts.roles (few_users s.requires.0) in
    (s.requires.1, fit, omega arith, omega (arith, s.requires.1))

witness_length_requires : tie.Need-witness_length-shown-requires
witness_length_requires c κs =
    let placed = c.before.before.before in
    (users_at placed, permissions_at placed, (begun placed.before.before.before).requires.2)

abbrev role_names : tie.After-counts_length → tie.After-role_names_length
role_names c = c.before.before

-- the whole sum within its bound
abbrev lines : tie.Start → ℕ
lines s =
    let roles = s.args.counts.roles in
    roles * (2 * (layout s).permissions + 1) + (layout s).users * (2 * roles + 1)

sum_small : (c : tie.After-counts_length)
    → let r = role_names c in
    let s = named r in
    let names = r.bytes_at.result + r.bytes_at-2.result + 2 * r.role_names_length.result in
    c.counts_length.result + (29 + (layout s).permissions + s.args.counts.roles) + names + lines s
    + c.witness_length-shown.result < 2 ^ 32
unfolding row_bits row_words user_limit
sum_small c =
    let r = role_names c in
    let small = lines_small (named r) in
    omega (
      arith,
      small.0,
      small.1,
      small.2,
      small.3,
      roles_small r,
      names_small r.before,
      c.counts_length.ensures.small,
      c.witness_length-shown.ensures.small,
    )

returns : tie.Need-returns
returns c =
    let r = role_names c in
    let placed = r.before.before.before in
    let s = named r in
    let text = s.args.s.now in
    let laid = s.requires.0 in
    λ has gives. book_sum text has gives s.args.witness.now s.args.counts laid.user_total
    laid.permission_total c.counts_length.ensures
    (r.bytes_at.ensures ∙ users_bytes (users_at placed))
    (r.bytes_at-2.ensures ∙ permissions_bytes (permissions_at placed))
    r.role_names_length.ensures c.witness_length-shown.ensures

pub book_length_spec : {M : Type 1} → statement M
unfolding row_bits row_words user_limit
book_length_spec =
    tie.close (tie.spec first_places_requires first_places_requires_2 (λ c κs. users_short (users_at c))
    (λ c κs. permissions_short (permissions_at c.before)) (λ c. omega (arith, names_small c))
    (λ c κs. (counted c).requires.1) (λ c. omega (arith, roles_small c))
    (λ c. omega (arith, roles_small c, names_small c.before))
    (λ c. omega (arith, (lines_small (named c)).1)) (λ c. omega (arith, (lines_small (named c)).1))
    (λ c. omega (arith, (lines_small (named c)).2)) (λ c. omega (arith, (lines_small (named c)).0))
    (λ c. omega (arith, (lines_small (named c)).0)) (λ c. omega (arith, (lines_small (named c)).3))
    (λ c. omega (arith, (lines_small (named c)).2, (lines_small (named c)).3))
    (λ c. omega (arith, (lines_small (named c)).1))
    (λ c. omega (arith, (lines_small (named c)).0, (lines_small (named c)).1)) witness_length_requires
    (λ c κs. search rules) (λ c. omega (arith, sum_small c)) (λ c. omega (arith, sum_small c))
    (λ c. omega (arith, sum_small c)) (λ c. omega (arith, sum_small c)) returns)
