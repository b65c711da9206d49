-- The parts of a position that a step is given one by one: the state of the machine that they stand for, and what
-- holds of them wherever a search stands.
use Rattle.std.specs.Prelude.{ℕ, ◌≤◌, ◌<◌, ◌≡◌, List, eqb, get_or}
use Rattle.spec.specs.Limits.{search_limit}
use Rattle.spec.specs.Cover.{used}
use Rattle.spec.specs.Machine.{State}
use Rattle.lists.specs.Classing.{Grown}
use Rattle.lists.specs.LatestFirst.{latest_first}
use Rattle.marks.specs.declared.marks.Marks.{Marks}
use Rattle.marks.specs.Marks.{marked}
use Rattle.moves.specs.declared.cursor.Cursor.{Cursor}

-- a cursor, the classes of the grants placed, and the best placement
pub record Parts : Type 0 where
  pub cursor : Cursor
  pub classes : List ℕ
  pub best : List ℕ

abbrev pub at_position : Cursor → List ℕ → List ℕ → Parts
at_position cursor classes best = record { cursor = cursor; classes = classes; best = best }

-- the state of the machine that the parts of a position over a kernel of some size stand for
abbrev pub parts_view : Parts → ℕ → State
parts_view parts size =
    record {
      placed = latest_first parts.classes parts.cursor.depth;
      next = parts.cursor.next;
      best = latest_first parts.best size;
      finished = parts.cursor.finished;
    }

-- the grants placed: no more than there are, in classes numbered by first appearance; the classes in use are counted,
-- and a grant is marked where it opened its class
pub record Trail (size depth in_use : ℕ) (opened : Marks) (classes : List ℕ) : Type 0 where
  pub depth_within : depth ≤ size
  pub grown : Grown (latest_first classes depth)
  pub used_counted : in_use ≡ used (latest_first classes depth)
  pub opened_marked : (i : ℕ) → i < depth → marked opened i ≡ eqb (get_or classes i 0) (used (latest_first classes i))

-- the parts of a position over a kernel that can be searched: its placed grants, and the class count of its best
-- placement
pub record PartsStand (size : ℕ) (parts : Parts) : Type 0 where
  pub size_within : size ≤ search_limit
  pub trail : Trail size parts.cursor.depth parts.cursor.used parts.cursor.opened parts.classes
  pub best_counted : parts.cursor.count ≡ used (latest_first parts.best size)
