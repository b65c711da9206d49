-- A placement whose classes are numbered by first appearance has at most as many classes as members: each member adds
-- at most one. Assumes nothing.
use Rattle.std.specs.Prelude.{ℕ, ◌≤◌, List, [], ◌∷◌, length}
use Rattle.std.proofs.Common.{le_refl, arith}
use Rattle.spec.specs.Cover.{used}
use Rattle.lists.specs.Classing.{Grown}

pub grown_used_le : (placed : List ℕ) → Grown placed → used placed ≤ length placed
grown_used_le [] g = le_refl 0
grown_used_le (a ∷ earlier) g = omega (arith, g.0, grown_used_le earlier g.1)
