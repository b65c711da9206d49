-- One step over lent arrays: what it asks of them, and where it leads.
use Rattle.std.specs.Prelude.{ℕ, suc, ◌+◌, ◌-◌, ◌≤◌, ◌<◌, ◌≡◌, Bool, true, false, List, eqb, length, get_or, set}
use Rattle.std.proofs.Common.{◌∙◌, arith, length-set, get_or-set_same, get_or-set_other}
use Rattle.std.proofs.Math.Option
use Rattle.spec.specs.Vocabulary.{lowest_below}
use Rattle.spec.specs.Machine.{step}
use Rattle.bits.specs.Laws.Lowest.{lowest_below_ext}
use Rattle.marks.specs.Marks.{mark_limit}
use Rattle.moves.specs.declared.cursor.Cursor.{Cursor}
use Rattle.moves.specs.declared.cursor.Sizes.{Sizes}
use Rattle.moves.specs.declared.cursor.Step.{Step}
use Rattle.moves.specs.declared.kinds.StepKind.{StepKind}
use Rattle.moves.specs.declared.kinds.StepKind.TheVariants.{Placed, TookBack, Closed}
use Rattle.moves.specs.FitTable.{kernel_given}
use Rattle.moves.specs.StepKinds.{kind_case}
use Rattle.moves.specs.Parts.{at_position, parts_view, PartsStand}
use Rattle.moves.specs.CursorAfter.{CursorPlaced, ended_at, taken_back}
use Rattle.moves.specs.Gathered.{Gathered, MemberSet, gathered_more, gathered_fewer}
use Rattle.moves.specs.OpenTo.{class_end, joinable, open_to}
use Rattle.moves.specs.Laws.Choice.{open_joinable}
use Rattle.moves.specs.Laws.Moves.{Looked, depth_le_limit, room_below_limit, closes, takes_back, places}
use Rattle.moves.specs.Laws.Moves.{Follows, improves, end_within_limit}

-- the parts stand, and each class's members are gathered
pub record Ready (size : ℕ) (at : Cursor) (classes best members : List ℕ) : Type 0 where
  pub stands : PartsStand size (at_position at classes best)
  pub classes_sized : length classes ≡ mark_limit
  pub gathered : Gathered classes at.depth members

-- a cursor and what the step to it was
abbrev pub step_to : Cursor → StepKind → Step
step_to cursor kind = record { cursor = cursor; kind = kind }

-- the view moved as the machine does in one step, which says what it was, and all is ready for the next
pub record Moved (table : List ℕ) (sizes : Sizes) (at : Cursor) (classes best : List ℕ) (after : Step)
    (classes' best' members' : List ℕ)
    : Type 0 where
  pub stepped :
      record {
        state = parts_view (at_position after.cursor classes' best') sizes.kernel;
        kind = kind_case after.kind;
      } ≡ step (kernel_given table sizes) (parts_view (at_position at classes best) sizes.kernel)
  pub ready : Ready sizes.kernel after.cursor classes' best' members'

-- the four ways that a step goes, over a table of members from which a class was looked for
module _ (table : List ℕ) (sizes : Sizes) {at : Cursor} {classes best members : List ℕ}
    (r : Ready sizes.kernel at classes best members) {end class : ℕ}
    (ends : end ≡ class_end at.depth sizes.kernel at.used at.count)
    (finds : class ≡ Option.get_or (lowest_below end (open_to table members at.depth at.next)) end) where
  looked : Looked table sizes.kernel (at_position at classes best) end class
  looked =
      record {
        ends = ends;
        finds =
            finds
            ∙ rw (lowest_below_ext end (open_to table members at.depth at.next)
            (joinable table classes at.depth at.next)
            (λ c l. open_joinable table at.depth at.next (depth_le_limit r.stands) r.gathered c
            (omega (arith, end_within_limit r.stands end ends))));
      }

  moves : {after : Step} {classes' best' members' : List ℕ}
      → Follows table sizes (at_position at classes best) (kind_case after.kind)
      (at_position after.cursor classes' best')
      → length classes' ≡ mark_limit → Gathered classes' after.cursor.depth members'
      → Moved table sizes at classes best after classes' best' members'
  moves f sized gathered =
      record { stepped = f.0; ready = record { stands = f.1; classes_sized = sized; gathered = gathered } }

  -- no class is found and no grant is placed
  pub closed : end ≤ class → at.depth ≡ 0
      → Moved table sizes at classes best (step_to (ended_at at at.count true) Closed) classes best members
  closed l e =
      moves (closes table sizes (at_position at classes best) r.stands looked l e) r.classes_sized r.gathered

  -- no class is found: the latest grant is taken back, and leaves its class
  pub took_back : end ≤ class → 0 < at.depth → (after : Cursor) (left : List ℕ)
      → after ≡ taken_back at (get_or classes (at.depth - 1) 0)
      → MemberSet members (get_or classes (at.depth - 1) 0) (at.depth - 1) false left
      → Moved table sizes at classes best (step_to after TookBack) classes best left
  took_back l pos after left e leaves =
      moves (takes_back table sizes (at_position at classes best) r.stands looked l pos after e) r.classes_sized
      (rw e (gathered_fewer (rw latest at r.gathered) leaves))
    where
      latest : at.depth ≡ suc (at.depth - 1)
      latest = omega arith

  -- the next grant is placed in the class found, and joins it
  module _ (l : class < end) (after : Cursor) (placed : CursorPlaced at class after) (joined : List ℕ)
      (joins : MemberSet members class at.depth true joined) where
    stored : at.depth < length classes
    stored = omega (arith, room_below_limit r.stands end ends (omega arith), r.classes_sized)

    sized_after : length (set classes at.depth class) ≡ mark_limit
    sized_after = length-set classes at.depth class ∙ r.classes_sized

    gathered_after : Gathered (set classes at.depth class) after.depth joined
    gathered_after =
        rw placed.depth
        (gathered_more r.gathered joins (λ i ne. get_or-set_other classes at.depth i class 0 ne)
        (get_or-set_same classes at.depth class 0 stored))

    pub put : (suc at.depth ≡ sizes.kernel → ⊥)
        → Moved table sizes at classes best (step_to after Placed) (set classes at.depth class) best joined
    put not-whole =
        moves (places table sizes (at_position at classes best) r.stands looked l stored after placed not-whole)
        sized_after gathered_after

    -- all grants are placed, and the placement is the best one
    pub put_last : suc at.depth ≡ sizes.kernel → (finished : Bool)
        → finished ≡ eqb (after.used + sizes.singles) sizes.witness
        → Moved table sizes at classes best (step_to (ended_at after after.used finished) Placed)
        (set classes at.depth class) (set classes at.depth class) joined
    put_last whole finished e =
        moves (improves table sizes (at_position at classes best) r.stands looked l stored after placed whole
        finished e) sized_after gathered_after
