-- `name_places::user_places`: while fewer names are noted than there are lines, a line is left, and there is room.
use Rattle.std.proofs.Common.{refl, arith, add-one}
use Rattle.std.specs.Prelude.{replicate}
use Rattle.spec.specs.Limits.{user_limit}
use Rattle.refusal.specs.Laws.UserPlaces.{noting_starts, noting_left, noting_goes_on, noting_ends}
use Rattle.refusal.proofs.name_places.user_places.Goals as goal

pub loop-n-init : goal.loop-n-init
unfolding user_limit
loop-n-init c =
    noting_starts user_limit c.args.s.now c.args.at (replicate user_limit 0) refl c.requires.room.2 c.requires.room.0

pub read_line-line-requires : goal.read_line-line-requires
read_line-line-requires c =
    omega (
      arith,
      noting_left user_limit c.args.s.now c.args.at c.loop-n.places c.loop-n.n c.loop-n.from c.loop-n.invariant
          (omega (arith, c.requires.users_value)),
    )

pub loop-n-preserved : goal.loop-n-preserved
loop-n-preserved c =
    rw (add-one, c.place_of.ensures)
    (noting_goes_on user_limit c.args.s.now c.args.at c.loop-n.places c.loop-n.n c.loop-n.from c.loop-n.invariant
    (noting_left user_limit c.args.s.now c.args.at c.loop-n.places c.loop-n.n c.loop-n.from c.loop-n.invariant
    (omega (arith, c.requires.users_value)))
    c.read_line-line.result c.read_line-line.ensures (omega (arith, c.requires.room.1, c.requires.users_value)))

pub returns : goal.returns
returns c =
    noting_ends user_limit c.args.s.now c.args.at c.loop-n.places c.loop-n.n c.loop-n.from c.loop-n.invariant
    (omega (arith, c.requires.users_value, c.loop-n-test.false, c.loop-n.auto.n-end))

pub offset_bounds-places-n : goal.offset_bounds-places-n
unfolding user_limit
offset_bounds-places-n c = omega (arith, c.requires.room.1)

pub bounds-places-n : goal.bounds-places-n
unfolding user_limit
bounds-places-n c = omega (arith, c.requires.room.1)
