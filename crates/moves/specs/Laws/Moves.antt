-- Where the parts of a position lead in one step: with a class found the next grant is placed, and with all placed
-- the placement is the best one; with none found the latest grant is taken back, or the search is closed. In each
-- case the view moves as the machine does, and the parts still stand.
use Prim.Native.Nat.{ℕ, zero, suc, ◌+◌, ◌-◌, ◌≤◌, ◌<◌, max}
use Rattle.std.specs.Prelude.{◌≡◌, refl, Bool, true, List, ◌∷◌, eqb, length, get_or, set}
use Rattle.std.proofs.Common.{sym, ◌∙◌, add-one, eq-eqb, ne_eqb}
use Rattle.std.proofs.Math.Path.{ap}
use Rattle.std.proofs.Math.Option
use native.Mathlib.Omega.{arith}
use Rattle.spec.specs.Vocabulary.{lowest_below}
use Rattle.spec.specs.Limits.{search_limit}
use Rattle.spec.specs.Cover.{used}
use Rattle.spec.specs.Machine.{State, StepKind, placing, taking_back, closing, Step, choice, place}
use Rattle.spec.specs.Machine.{take_back_or_close, move, step}
use Rattle.marks.specs.Marks.{mark_limit}
use Rattle.moves.specs.declared.cursor.Cursor.{Cursor}
use Rattle.moves.specs.declared.cursor.Sizes.{Sizes}
use Rattle.moves.specs.FitTable.{kernel_given}
use Rattle.moves.specs.Parts.{Parts, parts_view, Trail, PartsStand}
use Rattle.moves.specs.CursorAfter.{CursorPlaced, ended_at, taken_back}
use Rattle.moves.specs.OpenTo.{class_end, joinable}
use Rattle.moves.specs.Laws.Placed.{grown_class_le}
use Rattle.moves.specs.Laws.Trail.{trail_used_le, trail_placed, trail_taken_back}
use Rattle.moves.specs.Laws.ClassEnd.{Tried, below_class_end, choice_below_end}
use Rattle.bits.specs.Laws.Cut.{get_d_found, getD_missing}
use Rattle.lists.specs.LatestFirst.{latest_first, latest_first_length, latest_first_next}

-- the view of the parts moves as the machine does in one step, which is of this kind, and they stand
abbrev pub Follows : List ℕ → Sizes → Parts → StepKind → Parts → Type 0
Follows table sizes before kind after =
    (record { state = parts_view after sizes.kernel; kind = kind }
    ≡ step (kernel_given table sizes) (parts_view before sizes.kernel))
    × PartsStand sizes.kernel after

-- a class was found for the next grant below the end of the classes to try, or it is the end
pub record Looked (table : List ℕ) (size : ℕ) (parts : Parts) (end class : ℕ) : Type 0 where
  pub ends : end ≡ class_end parts.cursor.depth size parts.cursor.used parts.cursor.count
  pub finds :
      class ≡ Option.get_or (lowest_below end (joinable table parts.classes parts.cursor.depth
      parts.cursor.next)) end

-- a state is its four parts
same_state : {a b : List ℕ} {m n : ℕ} {c d : List ℕ} {f g : Bool} → a ≡ b → m ≡ n → c ≡ d → f ≡ g
    → ◌≡◌ {A = State} (record { placed = a; next = m; best = c; finished = f })
    (record { placed = b; next = n; best = d; finished = g })
same_state p q r s i = record { placed = p i; next = q i; best = r i; finished = s i }

-- two steps of one kind are the same if they lead to the same state
same_step : {a b : State} (kind : StepKind) → a ≡ b
    → ◌≡◌ {A = Step} (record { state = a; kind = kind }) (record { state = b; kind = kind })
same_step kind e = ap (λ (st : State). record { state = st; kind = kind }) e

-- ---- how many there can be

pub depth_le_limit : {size : ℕ} {p : Parts} → PartsStand size p → p.cursor.depth ≤ mark_limit
unfolding search_limit
depth_le_limit s = omega (arith, s.size_within, s.trail.depth_within)

pub class_below_limit : {size : ℕ} {p : Parts} → PartsStand size p → (i : ℕ) → i < p.cursor.depth
    → get_or p.classes i 0 < mark_limit
class_below_limit {size} {p} s i l =
    omega (arith, depth_le_limit s, grown_class_le p.classes p.cursor.depth s.trail.grown l)

module _ {size : ℕ} {p : Parts} (s : PartsStand size p) where
  -- a class below the end may be tried
  pub tried : {end c : ℕ} → end ≡ class_end p.cursor.depth size p.cursor.used p.cursor.count → c < end
      → Tried p.cursor.depth size p.cursor.used p.cursor.count c
  tried e l = below_class_end p.cursor.depth size p.cursor.used p.cursor.count (rw e at l)

  pub end_within_limit : (end : ℕ) → end ≡ class_end p.cursor.depth size p.cursor.used p.cursor.count
      → end ≤ mark_limit
  unfolding search_limit
  end_within_limit zero e = omega arith
  end_within_limit (suc c) e =
      let w = tried {c = c} e (omega arith) in
      omega (arith, w.room, w.used_or_next, trail_used_le s.trail, s.size_within)

  pub room_below_limit : (end : ℕ) → end ≡ class_end p.cursor.depth size p.cursor.used p.cursor.count
      → 0 < end
      → p.cursor.depth < mark_limit
  unfolding search_limit
  room_below_limit end e l = omega (arith, (tried e l).room, s.size_within)

-- ---- what the machine chooses

module _ (table : List ℕ) (sizes : Sizes) (p : Parts) (s : PartsStand sizes.kernel p) {end class : ℕ}
    (w : Looked table sizes.kernel p end class) where
  -- the machine's choice is what was looked for
  choice_looked : choice (kernel_given table sizes) (parts_view p sizes.kernel)
      ≡ lowest_below end (joinable table p.classes p.cursor.depth p.cursor.next)
  choice_looked =
      choice_below_end table sizes p.classes p.best p.cursor.depth p.cursor.next
      p.cursor.finished
      ∙ rw (← s.trail.used_counted, ← s.best_counted, ← w.ends)

  steps_by_placing : class < end
      → step (kernel_given table sizes) (parts_view p sizes.kernel)
      ≡ record { state = place (kernel_given table sizes) (parts_view p sizes.kernel) class; kind = placing }
  unfolding step
  steps_by_placing l =
      ap (move (kernel_given table sizes) (parts_view p sizes.kernel))
      (choice_looked
      ∙ get_d_found (lowest_below end (joinable table p.classes p.cursor.depth p.cursor.next)) end
      w.finds l)

  steps_by_taking_back : end ≤ class
      → step (kernel_given table sizes) (parts_view p sizes.kernel)
      ≡ take_back_or_close (parts_view p sizes.kernel) (latest_first p.classes p.cursor.depth)
  unfolding step
  steps_by_taking_back l =
      ap (move (kernel_given table sizes) (parts_view p sizes.kernel))
      (choice_looked ∙ getD_missing end (joinable table p.classes p.cursor.depth p.cursor.next) w.finds l)

  -- ---- the four ways

  -- no grant is placed, and no class is found: the search is closed
  pub closes : end ≤ class → p.cursor.depth ≡ 0
      → Follows table sizes p closing
      (record { cursor = ended_at p.cursor p.cursor.count true; classes = p.classes; best = p.best })
  closes l e = (
    rw (steps_by_taking_back l, e),
    record { size_within = s.size_within; trail = s.trail; best_counted = s.best_counted },
  )

  -- no class is found: the latest grant is taken back
  pub takes_back : end ≤ class → 0 < p.cursor.depth → (after : Cursor)
      → after ≡ taken_back p.cursor (get_or p.classes (p.cursor.depth - 1) 0)
      → Follows table sizes p taking_back (record { cursor = after; classes = p.classes; best = p.best })
  takes_back l pos after e = (
    rw (e, steps_by_taking_back l, ap (latest_first p.classes) latest)
        (same_step taking_back (same_state refl (add-one (get_or p.classes (p.cursor.depth - 1) 0)) refl refl)),
    record {
      size_within = s.size_within;
      trail = rw e (trail_taken_back (p.cursor.depth - 1) (rw latest at s.trail));
      best_counted = rw e s.best_counted;
    },
  )
    where
      latest : p.cursor.depth ≡ suc (p.cursor.depth - 1)
      latest = omega arith

  -- the next grant is placed in the class found
  module _ (l : class < end) (stored : p.cursor.depth < length p.classes) (after : Cursor)
      (placed : CursorPlaced p.cursor class after) where
    placed_next : latest_first (set p.classes p.cursor.depth class) after.depth ≡ class ∷ latest_first
        p.classes p.cursor.depth
    placed_next =
        ap (latest_first (set p.classes p.cursor.depth class)) placed.depth ∙ latest_first_next p.classes
        p.cursor.depth class stored

    trail_after : Trail sizes.kernel after.depth after.used after.opened
        (set p.classes p.cursor.depth class)
    trail_after =
        let t = tried s w.ends l in
        rw placed.depth
        (trail_placed s.trail class after.used after.opened stored t.room t.used_or_next
        placed.in_use placed.opened)

    pub places : (suc p.cursor.depth ≡ sizes.kernel → ⊥)
        → Follows table sizes p placing
        (record { cursor = after; classes = set p.classes p.cursor.depth class; best = p.best })
    places not-whole = (
      rw (
        steps_by_placing l,
        latest_first_length p.classes p.cursor.depth,
        ne_eqb (suc p.cursor.depth) sizes.kernel
            not-whole,
      )
          (same_step placing (same_state placed_next placed.next refl placed.finished)),
      record { size_within = s.size_within; trail = trail_after; best_counted = placed.count ∙ s.best_counted },
    )

    -- all grants are placed: the placement is the best one
    pub improves : suc p.cursor.depth ≡ sizes.kernel → (finished : Bool)
        → finished ≡ eqb (after.used + sizes.singles) sizes.witness
        → Follows table sizes p placing
        (record {
          cursor = ended_at after after.used finished;
          classes = set p.classes p.cursor.depth class;
          best = set p.classes p.cursor.depth class;
        })
    improves whole finished e = (
      rw (
        steps_by_placing l,
        latest_first_length p.classes p.cursor.depth,
        eq-eqb (suc p.cursor.depth) sizes.kernel
            whole,
      )
          (same_step placing (same_state placed_next placed.next best_is (e ∙ rw counted))),
      record { size_within = s.size_within; trail = trail_after; best_counted = counted ∙ ap used (sym best_is) },
    )
      where
        best_is : latest_first (set p.classes p.cursor.depth class) sizes.kernel ≡ class ∷ latest_first
            p.classes
            p.cursor.depth
        best_is = rw (← whole) (latest_first_next p.classes p.cursor.depth class stored)

        counted : after.used ≡ max (suc class) (used (latest_first p.classes p.cursor.depth))
        counted = placed.in_use ∙ ap (max (suc class)) s.trail.used_counted
