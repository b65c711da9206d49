-- The cursor after each way that a step goes: the next grant placed, which may give a best placement, the latest
-- taken back, or the search closed.
use Rattle.std.specs.Prelude.{ℕ, suc, ◌+◌, ◌-◌, max, ◌≡◌, Bool, cond, eqb}
use Rattle.bits.specs.Counting.{one_if}
use Rattle.marks.specs.Marks.{marked}
use Rattle.moves.specs.declared.cursor.Cursor.{Cursor}

-- a cursor once its next grant is placed in a class
pub record CursorPlaced (at : Cursor) (class : ℕ) (after : Cursor) : Type 0 where
  pub depth : after.depth ≡ suc at.depth
  pub next : after.next ≡ 0
  pub in_use : after.used ≡ max (suc class) at.used
  pub count : after.count ≡ at.count
  pub finished : after.finished ≡ at.finished
  pub opened :
      (i : ℕ) → marked after.opened i ≡ cond (eqb i at.depth) (eqb class at.used) (marked at.opened i)

-- a cursor with another class count of the best placement, finished or not
abbrev pub ended_at : Cursor → ℕ → Bool → Cursor
ended_at at count finished =
    record {
      depth = at.depth;
      next = at.next;
      used = at.used;
      count = count;
      finished = finished;
      opened = at.opened;
    }

-- a cursor once its latest grant, of a class, is taken back
abbrev pub taken_back : Cursor → ℕ → Cursor
taken_back at class =
    record {
      depth = at.depth - 1;
      next = class + 1;
      used = at.used - one_if (marked at.opened (at.depth - 1));
      count = at.count;
      finished = at.finished;
      opened = at.opened;
    }
