-- The classes of the best placement, from the first cover's and the position's: the position's where the kernel can be
-- searched, and else the first cover. Assumes nothing.
use Rattle.std.specs.Prelude.{ℕ, cond, List, ltb}
use Rattle.spec.specs.Limits.{search_limit}

abbrev pub best_classes : List ℕ → List ℕ → ℕ → List ℕ
best_classes first best size = cond (ltb search_limit size) first best
