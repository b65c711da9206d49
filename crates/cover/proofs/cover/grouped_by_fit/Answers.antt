-- `cover::grouped_by_fit`: each grant in turn takes the class that the grouping gives it, since the words say which
-- classes it can join. What it asks and what its user lacks is then added to that class. Where the class is past most,
-- so is the count of the whole grouping.
use Rattle.std.proofs.Common.{◌≡◌, ◌<◌, refl, ◌∙◌, arith, mod-lt, length, get_or, length-set}
use Rattle.spec.specs.Limits.{grant_limit}
use Rattle.cell_rows.specs.Rows.{row_words, row_bits}
use Rattle.cells.specs.Blank.{zeros_blank, set_blank}
use Rattle.cell_rows.specs.Laws.Width.{row_bits_pos}
use Rattle.cover.specs.CoverRelation.{user_has_room}
use Rattle.cover.specs.CoverMembers.{class_words}
use Rattle.cover.specs.Laws.CoverFit.{none_fitted, next_user, more_classes, one_fitted}
use Rattle.cover.proofs.cover.grouped_by_fit.Goals as goal

pub loop-d-init : goal.loop-d-init
unfolding grant_limit row_bits row_words
loop-d-init c = (
  refl,
  refl,
  refl,
  λ held. none_fitted _ _ _ 0 class_words row_words _ refl refl (omega arith),
  zeros_blank 0 grant_limit,
)

pub allowed_next-allowed-requires : goal.allowed_next-allowed-requires
allowed_next-allowed-requires c =
    let at = get_or c.args.cells.now c.loop-d.d 0 in (
      rw c.user_of-user.ensures (user_has_room at (omega (arith, c.type_inv.cells c.loop-d.d))),
      c.requires.1,
    )

pub class_for-c-requires : goal.class_for-c-requires
class_for-c-requires c = rw c.permission_of-permission.ensures (mod-lt _ row_bits_pos)

pub returns-then-c-most : goal.returns-then-c-most
returns-then-c-most c =
    let next = rw c.user_of-user.ensures at c.allowed_next-allowed.ensures in
    let found = rw c.permission_of-permission.ensures at c.class_for-c.ensures in
    record {
      placed_or_more = λ held.
          more_classes c.requires.1 (next_user next (c.loop-d.invariant.3 held)) found (length c.args.cells.now)
          (omega arith) (omega arith);
      blank_from = tt;
    }

pub add_asked-requires : goal.add_asked-requires
add_asked-requires c =
    record {
      c_lt_row_bits =
          (omega (arith, c.requires.1), rw c.permission_of-permission.ensures (mod-lt _ row_bits_pos));
      asked_len = c.loop-d.invariant.1;
    }

pub add_lacked-requires : goal.add_lacked-requires
add_lacked-requires c =
    let at = get_or c.args.cells.now c.loop-d.d 0 in
    record {
      c_lt_row_bits = (
        omega (arith, c.requires.1),
        rw c.user_of-user.ensures (user_has_room at (omega (arith, c.type_inv.cells c.loop-d.d))),
      );
      lacked_len = c.loop-d.invariant.2;
    }

pub loop-d-preserved : goal.loop-d-preserved
loop-d-preserved c =
    let l = c.loop-d in
    let user = c.user_of-user.ensures in
    let permission = c.permission_of-permission.ensures in
    let next = rw user at c.allowed_next-allowed.ensures in
    let found = rw permission at c.class_for-c.ensures in
    let room : l.d < length l.classes = omega (arith, l.invariant.0) in (
      length-set l.classes l.d _ ∙ l.invariant.0,
      c.add_asked.ensures.size ∙ l.invariant.1,
      c.add_lacked.ensures.size ∙ l.invariant.2,
      λ held. rw (c.counted-count.ensures, user)
          (one_fitted c.requires.1 (next_user next (l.invariant.3 held)) found (omega (arith, c.if-c-most.false)) held _ _
          (omega arith) room (rw permission at c.add_asked.ensures) (rw user at c.add_lacked.ensures)),
      set_blank _ l.invariant.4,
    )

pub returns : goal.returns
returns c =
    let e : c.loop-d.d ≡ length c.args.cells.now = omega arith in
    record {
      placed_or_more = λ held. rw e at (c.loop-d.invariant.3 held).placed;
      blank_from = rw e at c.loop-d.invariant.4;
    }
