-- Visits one after the other: what was visited first and what was visited then are visited together, nothing visited
-- changes nothing, and after any visits the work can go on.
use Rattle.std.specs.Prelude.{ℕ, ◌≤◌, ◌≡◌, refl, List, [], ◌∷◌, ◌++◌, map}
use Rattle.std.proofs.Common.{arith, sym, ap, ◌∙◌}
use mathlib.Core.List.Memᴰ
use Rattle.spec.specs.Sheet.{Sheet, Grant}
use Rattle.spec.specs.Reduction.{Reduction, visit, visits}
use Rattle.bits.specs.Laws.Count.{count_below_mono}
use Rattle.lists.specs.AppendLaws.{map_append}
use Rattle.cell_rows.specs.CellPlaces.{cell_limit, grant_of, marked, Part}
use Rattle.verdict.specs.ReductionWork.{Work, state_of, WorkReady, Visited}

pub part_all : (left : List ℕ) → Part left left
part_all left = record { held = λ n p. p }

pub part_of_part : {some more rows : List ℕ} → Part some more → Part more rows → Part some rows
part_of_part p q = record { held = λ n m. q.held n (p.held n m) }

pub visits_append : (sheet : Sheet) (l m : List Grant) (r : Reduction) → visits sheet (l ++ m) r ≡ visits sheet m
    (visits sheet l r)
visits_append sheet [] m r = refl
visits_append sheet (it ∷ l) m r = visits_append sheet l m (visit sheet it r)

module _ {rows : List ℕ} {users : ℕ} where
  pub none_visited : {work : Work} → WorkReady rows users work → Visited rows users [] work work
  none_visited {work} ready =
      record {
        part = part_all work.left;
        kept = λ n out. refl;
        total = refl;
        logged = ready.logged;
        state =
            λ sheet shown. refl;
      }

  pub visited_then : {first then : List ℕ} {before middle after : Work} → Visited rows users first before middle
      → Visited rows users then middle after → Visited rows users (first ++ then) before after
  visited_then {first} {then} {before} v w =
      record {
        part = part_of_part w.part v.part;
        kept = λ n out. w.kept n (λ m. out (Memᴰ.append_right first m))
            ∙ v.kept n (λ m. out (Memᴰ.append_left then m));
        total = w.total ∙ v.total;
        logged = w.logged;
        state = λ sheet shown.
            w.state sheet shown
            ∙ ap (visits sheet (map grant_of then)) (v.state sheet shown)
            ∙ sym (visits_append sheet (map grant_of first) (map grant_of then) (state_of sheet before))
            ∙ ap (λ l. visits sheet l (state_of sheet before)) (sym (map_append grant_of first then));
      }

  pub visited_ready : {cells : List ℕ} {before after : Work} → WorkReady rows users before → Visited rows users cells
      before after
      → WorkReady rows users after
  visited_ready ready v =
      record {
        shows = ready.shows;
        part = part_of_part v.part ready.part;
        room = omega (arith, v.total, ready.room);
        logged = v.logged;
      }

  -- a visit only removes, so the removals only grow in number
  pub visited_grows : {cells : List ℕ} {before after : Work} → Visited rows users cells before after
      → before.count ≤ after.count
  visited_grows {before} {after} v =
      omega (
        arith,
        v.total,
        count_below_mono cell_limit (marked after.left) (marked before.left)
            (λ n l p. v.part.held n p),
      )
