-- `say::say`: the count of what was put is within the buffer that holds it.
use Rattle.text.specs.Laws.Front.{count_within, front_counted}
use Rattle.play.proofs.say.say.Goals as goal

pub slice_bounds-out-end : goal.slice_bounds-out-end
slice_bounds-out-end c = count_within c.put_answer-count.ensures

pub slice_bounds-write_all-end : goal.slice_bounds-write_all-end
slice_bounds-write_all-end c = front_counted c.put_answer-count.ensures
