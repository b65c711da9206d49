-- What the words and bytes of a position stand for: a state of the machine, as its parts do (`Parts` of moves). And
-- what holds of every position that the code makes.
use Rattle.std.specs.Prelude.{ℕ, ◌+◌, List, eqb, replicate}
use Rattle.spec.specs.Machine.{State}
use Rattle.spec.specs.Machine as machine
use Rattle.marks.specs.Marks.{mark_limit}
use Rattle.moves.specs.declared.cursor.Sizes.{Sizes}
use Rattle.search.specs.declared.machine.Position.{Position}
use Rattle.search.specs.declared.machine.Stepped.{Stepped}
use Rattle.search.specs.declared.machine.Ran.{Ran}
use Rattle.moves.specs.StepKinds.{kind_case, kinds_said}
use Rattle.moves.specs.Parts.{Parts, at_position, parts_view, PartsStand}

-- what a search takes apart and lends
abbrev pub parts_of : Position → Parts
parts_of position = at_position position.cursor position.classes position.best

-- the state of the machine that a position over a kernel of some size stands for
abbrev pub view : Position → ℕ → State
view position size = parts_view (parts_of position) size

-- the position after a step, and what the step was
abbrev pub view_stepped : Stepped → ℕ → machine.Step
view_stepped stepped size = record { state = view stepped.position size; kind = kind_case stepped.kind }

-- the position, the step count and the counts of each kind of a run
abbrev pub view_ran : Ran → ℕ → machine.Ran
view_ran ran size =
    record { state = view ran.position size; steps = ran.steps; kinds = kinds_said ran.kinds }

-- a position over a kernel that can be searched: its placed grants, and the class count of its best placement
abbrev pub PositionStands : ℕ → Position → Type 0
PositionStands size position = PartsStand size (parts_of position)

-- the position before the first step: no grant is placed, and the best placement is the first one, whose classes are
-- counted
abbrev pub started : List ℕ → ℕ → Sizes → Position
started first count sizes =
    record {
      cursor =
          record {
            depth = 0;
            next = 0;
            used = 0;
            count = count;
            finished = eqb (count + sizes.singles) sizes.witness;
            opened = record { low = 0; high = 0 };
          };
      classes = replicate mark_limit 0;
      best = first;
    }
