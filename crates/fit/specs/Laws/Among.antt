-- To stand among some grants, as a test and as membership: equal grants are the same grant.
use Rattle.std.proofs.Math.Bool.{So}
use mathlib.Core.List.Memᴰ
use mathlib.Core.List.{List, Memᴰ}
use Rattle.spec.specs.Sheet.{Grant, same_grant}
use Rattle.spec.specs.Fit.{among}
use Rattle.lists.specs.TestLaws.{any_intro, any_elim}
use Rattle.cells.specs.Laws.Grant.{same_grant_refl, same_grant_equal}

pub among_member : (l : List Grant) (g : Grant) → So (among l g) → Memᴰ g l
among_member l g e =
    let r = any_elim (same_grant g) l e in
    Memᴰ.cast (same_grant_equal g r.element r.passes) r.member

pub member_among : (l : List Grant) {g : Grant} → Memᴰ g l → So (among l g)
member_among l {g} m = any_intro (same_grant g) l m (same_grant_refl g)
