-- `moved`: the class looked for is the machine's choice, and each return is one of the four ways that a step goes
-- (`Moves`); the grant placed or taken back joins or leaves its class in the table of members (`Gathered`).
use Rattle.std.proofs.Common.{◌≡◌, suc, ◌-◌, ◌<◌, sym, ◌∙◌, add-one, arith}
use Rattle.marks.specs.Marks.{mark_limit}
use Rattle.moves.specs.Lent.{closed, took_back, put, put_last}
use Rattle.moves.specs.Laws.Moves.{depth_le_limit, class_below_limit, end_within_limit, room_below_limit}
use Rattle.moves.specs.Laws.Trail.{trail_used_pos}
use Rattle.moves.proofs.moves.moved.Goals as goal

pub class_for-class-requires-clause-end_le_mark_limit :
    goal.class_for-class-requires-clause-end_le_mark_limit
class_for-class-requires-clause-end_le_mark_limit c =
    end_within_limit c.requires.stands c.class_end-end.result c.class_end-end.ensures

pub class_for-class-requires-clause-grant_lt_mark_limit :
    goal.class_for-class-requires-clause-grant_lt_mark_limit
class_for-class-requires-clause-grant_lt_mark_limit c =
    room_below_limit c.requires.stands c.class_end-end.result c.class_end-end.ensures

-- with a class found there is a next grant, and the class may be tried
room : (c : goal.Then-class-end) → c.args.at.depth < mark_limit
room c = room_below_limit c.requires.stands c.class_end-end.result c.class_end-end.ensures (omega arith)

class_small : (c : goal.Then-class-end) → c.class_for-class.result < mark_limit
class_small c =
    omega (arith, end_within_limit c.requires.stands c.class_end-end.result c.class_end-end.ensures)

pub overflow_cast-classes : goal.overflow_cast-classes
overflow_cast-classes c = omega (arith, class_small c)

pub bounds-classes-d : goal.bounds-classes-d
bounds-classes-d c = room_below_limit c.requires.stands c.class_end-end.result c.class_end-end.ensures (omega arith)

pub set-requires-clause-class_lt_mark_limit : goal.set-requires-clause-class_lt_mark_limit
set-requires-clause-class_lt_mark_limit c =
    omega (arith, end_within_limit c.requires.stands c.class_end-end.result c.class_end-end.ensures)

pub set-requires-clause-grant_lt_mark_limit : goal.set-requires-clause-grant_lt_mark_limit
set-requires-clause-grant_lt_mark_limit c =
    room_below_limit c.requires.stands c.class_end-end.result c.class_end-end.ensures (omega arith)

pub placed-placed-requires-clause-depth_lt_mark_limit :
    goal.placed-placed-requires-clause-depth_lt_mark_limit
placed-placed-requires-clause-depth_lt_mark_limit c =
    room_below_limit c.requires.stands c.class_end-end.result c.class_end-end.ensures (omega arith)

pub returns-then-d-sizes : goal.returns-then-d-sizes
returns-then-d-sizes c =
    let a = c.args in
    put_last a.fit.now a.sizes c.requires c.class_end-end.ensures c.class_for-class.ensures c.if-class-end.true
    c.placed-placed.result c.placed-placed.ensures c.set.new.members c.set.ensures
    (sym (add-one a.at.depth) ∙ c.if-d-sizes.true) c.reaches.result c.reaches.ensures

pub returns-then-class-end : goal.returns-then-class-end
returns-then-class-end c =
    let a = c.args in
    put a.fit.now a.sizes c.requires c.class_end-end.ensures c.class_for-class.ensures c.if-class-end.true
    c.placed-placed.result c.placed-placed.ensures c.set.new.members c.set.ensures
    (λ e. c.if-d-sizes.false (add-one a.at.depth ∙ e))

pub returns-then-d-eq0 : goal.returns-then-d-eq0
returns-then-d-eq0 c =
    closed c.args.fit.now c.args.sizes c.requires c.class_end-end.ensures c.class_for-class.ensures
    c.if-class-end.false c.if-d-eq0.true

pub bounds-classes-d-2 : goal.bounds-classes-d-2
bounds-classes-d-2 c = omega (arith, depth_le_limit c.requires.stands)

-- the class of the latest grant
pub set-requires-2-clause-class_lt_mark_limit : goal.set-requires-2-clause-class_lt_mark_limit
set-requires-2-clause-class_lt_mark_limit c =
    class_below_limit c.requires.stands (c.args.at.depth - 1) (omega arith)

pub set-requires-2-clause-grant_lt_mark_limit : goal.set-requires-2-clause-grant_lt_mark_limit
set-requires-2-clause-grant_lt_mark_limit c = omega (arith, depth_le_limit c.requires.stands)

pub taken_back-back-requires-clause-depth_le_mark_limit :
    goal.taken_back-back-requires-clause-depth_le_mark_limit
taken_back-back-requires-clause-depth_le_mark_limit c = depth_le_limit c.requires.stands

pub taken_back-back-requires-clause-class_lt_mark_limit :
    goal.taken_back-back-requires-clause-class_lt_mark_limit
taken_back-back-requires-clause-class_lt_mark_limit c =
    class_below_limit c.requires.stands (c.args.at.depth - 1) (omega arith)

pub taken_back-back-requires-clause-used_nonzero :
    goal.taken_back-back-requires-clause-used_nonzero
taken_back-back-requires-clause-used_nonzero c =
    let d = c.args.at.depth in
    let latest : d ≡ suc (d - 1) = omega arith in
    trail_used_pos (d - 1) (rw latest at c.requires.stands.trail)

pub returns : goal.returns
returns c =
    let a = c.args in
    took_back a.fit.now a.sizes c.requires c.class_end-end.ensures c.class_for-class.ensures c.if-class-end.false
    (omega arith) c.taken_back-back.result c.set-2.new.members c.taken_back-back.ensures c.set-2.ensures
