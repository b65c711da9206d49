-- What a step was and how many there were of each kind, as the definitions have it. Assumes nothing.
use Rattle.std.specs.Prelude.{ℕ, ◌^◌}
use Rattle.spec.specs.Machine.{placing, taking_back, closing}
use Rattle.spec.specs.Machine as machine
use Rattle.moves.specs.declared.kinds.StepKind.{StepKind}
use Rattle.moves.specs.declared.kinds.StepKind.TheVariants.{Placed, TookBack, Closed}
use Rattle.moves.specs.declared.kinds.Kinds.{Kinds}

-- which of the three each case is
abbrev pub kind_case : StepKind → machine.StepKind
kind_case Placed = placing
kind_case TookBack = taking_back
kind_case Closed = closing

-- one past the greatest number that a count has room for
abbrev pub count_end : ℕ
count_end = 2 ^ 32

-- the counts
abbrev pub kinds_said : Kinds → machine.Kinds
kinds_said n = record { placed = n.placed; taken_back = n.taken_back; closed = n.closed }
