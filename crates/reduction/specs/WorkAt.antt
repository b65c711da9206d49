-- The code's work, as the work that the definitions speak of. Assumes nothing.
use Rattle.verdict.specs.ReductionWork.{Work, work_of}
use Rattle.reduction.specs.declared.reduction.Work as code

-- what remains, and so many removals
abbrev pub work_at : code.Work → Work
work_at w = work_of w.left w.removed w.partner w.count
