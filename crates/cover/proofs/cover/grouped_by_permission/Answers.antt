-- `cover::grouped_by_permission`: after d turns the first d grants have the classes that the grouping by permission
-- gives them, and the table has the classes of their permissions. Each turn gives the next grant the class of its
-- permission.
use Rattle.std.proofs.Common.{◌≡◌, ◌≤◌, ◌<◌, refl, ◌∙◌, arith, mod-lt, length}
use Rattle.spec.specs.Limits.{grant_limit}
use Rattle.cell_rows.specs.Rows.{row_words, row_bits}
use Rattle.cell_rows.specs.Laws.Width.{row_bits_pos}
use Rattle.cover.specs.CoverRelation.{permission_at_cell}
use Rattle.cover.specs.CoverKeys.{none_keyed, keyed_count_below, class_from_is_next, one_keyed}
use Rattle.cover.proofs.cover.grouped_by_permission.Goals as goal

pub loop-d-init : goal.loop-d-init
unfolding grant_limit row_bits row_words
loop-d-init c = none_keyed (permission_at_cell c.args.cells.now) grant_limit row_bits row_bits refl

pub class_of_permission-c-requires : goal.class_of_permission-c-requires
unfolding row_bits row_words
class_of_permission-c-requires c =
    let few : c.loop-d.count ≤ row_bits =
    keyed_count_below c.loop-d.invariant (λ i l. mod-lt _ row_bits_pos) in
    (omega arith, rw c.permission_of-permission.ensures (mod-lt _ row_bits_pos))

pub loop-d-preserved : goal.loop-d-preserved
loop-d-preserved c =
    let key = c.permission_of-permission.ensures in
    let keyed = c.loop-d.invariant in
    let few : c.loop-d.count ≤ row_bits = keyed_count_below keyed (λ i l. mod-lt _ row_bits_pos) in
    let room : c.loop-d.d < grant_limit = omega arith in
    let inside : permission_at_cell c.args.cells.now c.loop-d.d < row_bits = mod-lt _ row_bits_pos in
    let next = rw key at c.class_of_permission-c.ensures ∙ class_from_is_next keyed room inside few in
    rw (c.counted-count.ensures, key) (one_keyed keyed room inside few c.class_of_permission-c.result next)

pub returns : goal.returns
returns c =
    let e : c.loop-d.d ≡ length c.args.cells.now = omega arith in (
      keyed_count_below c.loop-d.invariant (λ i l. mod-lt _ row_bits_pos),
      rw e at c.loop-d.invariant.placed,
      rw e at c.loop-d.invariant.past,
    )
