-- `Position::step`: the members of each class are gathered from the placed grants' classes, and the step over them is
-- the machine's.
use Rattle.moves.specs.Laws.Moves.{depth_le_limit, class_below_limit}
use Rattle.search.proofs.machine.Position.step.Goals as goal

pub gathered-members-requires-clause-depth_le_mark_limit :
    goal.gathered-members-requires-clause-depth_le_mark_limit
gathered-members-requires-clause-depth_le_mark_limit c = depth_le_limit c.requires

pub gathered-members-requires-clause-by_index : goal.gathered-members-requires-clause-by_index
gathered-members-requires-clause-by_index c = class_below_limit c.requires
