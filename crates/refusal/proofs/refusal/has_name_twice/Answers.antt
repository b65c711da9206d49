-- `refusal::has_name_twice`: the users' names stand at the places noted for them, and so do the permissions'.
use Rattle.std.proofs.Common.{ℕ, ◌≡◌, ◌≤◌, List, length, take, drop, arith, sym, ap, ◌∙◌}
use Rattle.std.proofs.Common.{length-take}
use Rattle.std.proofs.Math.ListN.{length-map}
use mathlib.Core.List.{map, tail}
use Rattle.spec.specs.Limits.{sheet_limit, permission_limit, user_limit}
use Rattle.spec.specs.Vocabulary.{repeats}
use Rattle.spec.specs.Text.{Bytes, lines_of, same_name}
use Rattle.spec.specs.Sheet.{first_field}
use Rattle.places.specs.Places.{PlacedBelow, NamesPlaced}
use Rattle.places.specs.Laws.Places.{first_placed}
use Rattle.names.specs.Laws.NamesAt.{placed_names, placed_inside}
use Rattle.refusal.specs.FirstLine.{line_fields}
use Rattle.refusal.specs.UserPlaces.{UserPlaces}
use Rattle.refusal.specs.declared.fields.Cells.{Cells}
use Rattle.refusal.proofs.refusal.has_name_twice.Goals as goal

-- the users' places are noted, one for each
users_placed : (s : Bytes) (at users : ℕ) (places : List ℕ) → users ≡ length (lines_of (drop at s))
    → users ≤ length places → UserPlaces s at places
    → NamesPlaced s (take users places) (map first_field (lines_of (drop at s)))
users_placed s at users places e room noted =
    first_placed users s places (map first_field (lines_of (drop at s))) (rw e noted.names)
    (e ∙ sym (length-map (lines_of (drop at s)) first_field)) room

-- and the permissions'
permissions_placed : (s : Bytes) (count : ℕ) (places : List ℕ) → count ≡ length (tail (line_fields s))
    → count ≤ length places → PlacedBelow (length (tail (line_fields s))) s places (tail (line_fields s))
    → NamesPlaced s (take count places) (tail (line_fields s))
permissions_placed s count places e room noted =
    first_placed count s places (tail (line_fields s)) (rw e noted) e room

pub user_places-user_places-requires-clause-room : goal.user_places-user_places-requires-clause-room
unfolding sheet_limit
user_places-user_places-requires-clause-room c = (
  c.requires.read_line.within,
  c.requires.users_le_user_limit.0,
  omega (arith, c.requires.users_le_user_limit.2),
)

pub slice_bounds-user_places-end : goal.slice_bounds-user_places-end
unfolding user_limit
slice_bounds-user_places-end c = omega (arith, c.requires.users_le_user_limit.0)

pub slice_bounds-repeated_in-end : goal.slice_bounds-repeated_in-end
unfolding user_limit
slice_bounds-repeated_in-end c = simp length-take (omega (arith, c.requires.users_le_user_limit.0))

pub returns-then-repeated_in : goal.returns-then-repeated_in
unfolding user_limit
returns-then-repeated_in c =
    let placed = users_placed c.args.s.now c.args.head.next c.args.users c.user_places-user_places.result
    c.requires.users_value (omega (arith, c.requires.users_le_user_limit.0)) c.user_places-user_places.ensures in
    rw (← (c.if-repeated_in.ensures ∙ ap (repeats same_name) (placed_names c.args.s.now _ _ placed)))

pub permission_places-permission_places-requires-clause-room :
    goal.permission_places-permission_places-requires-clause-room
unfolding sheet_limit permission_limit user_limit
permission_places-permission_places-requires-clause-room c =
    (omega (arith, c.requires.users_le_user_limit.1), omega (arith, c.requires.users_le_user_limit.2))

pub slice_bounds-permission_places-end : goal.slice_bounds-permission_places-end
unfolding permission_limit
slice_bounds-permission_places-end c = omega (arith, c.requires.users_le_user_limit.1)

pub slice_bounds-repeated_in-end-2 : goal.slice_bounds-repeated_in-end-2
unfolding permission_limit
slice_bounds-repeated_in-end-2 c = simp length-take (omega (arith, c.requires.users_le_user_limit.1))

pub repeated_in-requires-2 : goal.repeated_in-requires-2
unfolding permission_limit user_limit
repeated_in-requires-2 c =
    let total = ap (λ (cells : Cells). cells.count) c.requires.read_line.cells in
    placed_inside c.args.s.now _ _
    (permissions_placed c.args.s.now c.args.head.cells.count c.permission_places-permission_places.result total
    (omega (arith, c.requires.users_le_user_limit.1)) c.permission_places-permission_places.ensures)
    (omega (arith, total, c.requires.users_le_user_limit.1))

pub returns : goal.returns
unfolding permission_limit user_limit
returns c =
    let total = ap (λ (cells : Cells). cells.count) c.requires.read_line.cells in
    let users = users_placed c.args.s.now c.args.head.next c.args.users c.user_places-user_places.result
    c.requires.users_value (omega (arith, c.requires.users_le_user_limit.0)) c.user_places-user_places.ensures in
    let permissions = permissions_placed c.args.s.now c.args.head.cells.count
    c.permission_places-permission_places.result total (omega (arith, c.requires.users_le_user_limit.1))
    c.permission_places-permission_places.ensures in
    rw (← (c.if-repeated_in.ensures ∙ ap (repeats same_name) (placed_names c.args.s.now _ _ users)))
    (c.repeated_in-2.ensures ∙ ap (repeats same_name) (placed_names c.args.s.now _ _ permissions))
