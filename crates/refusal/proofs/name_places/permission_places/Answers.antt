-- `name_places::permission_places`: while fewer fields are noted than there are, the line goes on, and there is room.
use Rattle.std.proofs.Common.{ℕ, ◌≡◌, ◌<◌, Bool, false, List, length, refl, arith, add-one}
use Rattle.std.specs.Prelude.{replicate}
use mathlib.Core.List.{tail}
use Rattle.spec.specs.Limits.{user_limit}
use Rattle.spec.specs.Text.{Bytes}
use Rattle.reader.specs.Fields.{field_read}
use Rattle.refusal.specs.FirstLine.{line_fields}
use Rattle.refusal.specs.Laws.Fields.{FieldStep}
use Rattle.refusal.specs.Laws.FieldsLeft.{field_next}
use Rattle.refusal.specs.Laws.PermissionPlaces.{FieldsNoted, noting_fields_starts, noting_fields_left}
use Rattle.refusal.specs.Laws.PermissionPlaces.{noting_fields_goes_on}
use Rattle.reader.specs.declared.cursor.FieldRead.{FieldRead}
use Rattle.refusal.proofs.name_places.permission_places.Goals as goal

module _ (s : Bytes) (count : ℕ) (total : count ≡ length (tail (line_fields s))) (places : List ℕ) (n : ℕ) (next : ℕ)
    (invariant : (last : Bool) × FieldsNoted user_limit s places n last next) (h : n < count) where
  -- in a turn the line goes on
  noted : FieldsNoted user_limit s places n false next
  noted =
      noting_fields_left user_limit s places n invariant.0 next invariant.1
      (let below : n < length (tail (line_fields s)) = omega arith in below)

  -- and a field is read
  read : (f : FieldRead) → f ≡ field_read s next → FieldStep s next f
  read f e = rw e (field_next s 0 n next noted.left)

pub loop-n-init : goal.loop-n-init
unfolding user_limit
loop-n-init c = (
  c.field.result.last,
  rw c.field.ensures
      (noting_fields_starts user_limit c.args.s.now (replicate user_limit 0) refl c.requires.room.1),
)

pub place_of-requires : goal.place_of-requires
place_of-requires c =
    let field = read c.args.s.now c.args.permissions c.requires.permissions_value c.loop-n.places c.loop-n.n
    c.loop-n.next.at c.loop-n.invariant c.loop-n-test.true c.field-field.result c.field-field.ensures in
    (omega (arith, c.requires.room.1, field), omega (arith, c.requires.room.1, field))

pub offset_bounds-places-n : goal.offset_bounds-places-n
unfolding user_limit
offset_bounds-places-n c = omega (arith, c.requires.room.0)

pub bounds-places-n : goal.bounds-places-n
unfolding user_limit
bounds-places-n c = omega (arith, c.requires.room.0)

pub loop-n-preserved : goal.loop-n-preserved
loop-n-preserved c = (
  c.field-field.result.last,
  rw (add-one, c.place_of.ensures, c.field-field.ensures)
      (noting_fields_goes_on user_limit c.args.s.now c.loop-n.places c.loop-n.n c.loop-n.next.at
      (noted c.args.s.now c.args.permissions c.requires.permissions_value c.loop-n.places c.loop-n.n c.loop-n.next.at
      c.loop-n.invariant c.loop-n-test.true)
      (omega (arith, c.requires.room.0, c.requires.permissions_value))),
)
