-- Sweeps until one removes nothing. As many cells remain as grants, so a sweep that logs no removal is one after
-- which as many grants remain, and there the definition's sweeps end. Any other leaves fewer, so the sweeps still
-- allowed stay more than the grants that remain.
use Prim.Native.Nat.{ℕ, zero, suc, ◌+◌, ◌*◌, ◌/◌, ◌%◌, ◌≤◌, ◌<◌}
use Rattle.std.proofs.Common.{le_refl, not-suc-le-zero, div-lt_iff_lt-mul, arith, sym, ap, ◌∙◌, eq-eqb, ne_eqb}
use Rattle.std.proofs.Math.Nat.{le_dest}
use Rattle.std.specs.Prelude.{◌≡◌, refl, Bool, false, cond, List, map, eqb, length}
use Rattle.std.proofs.lemmas.List.{length-map}
use Rattle.spec.specs.Limits.{user_limit}
use Rattle.spec.specs.Sheet.{Sheet, grants}
use Rattle.spec.specs.Reduction.{Reduction, visits, sweep, sweeps, reduction}
use Rattle.bits.specs.Truth.{fails_unless}
use Rattle.bits.specs.Counting.{count_below}
use Rattle.bits.specs.Laws.Count.{count_below_add, count_below_none_intro}
use Rattle.lists.specs.PassingBelow.{passing_below, passing_length}
use Rattle.cell_rows.specs.Rows.{row_bits}
use Rattle.cells.specs.CellSets.{cell_grants}
use Rattle.cell_rows.specs.CellPlaces.{cell_limit, grant_of, marked, Shown, Part, cells_of}
use Rattle.cell_rows.specs.Laws.Width.{row_bits_pos}
use Rattle.cells.specs.Laws.CellList.{marked_holds, grants_by_cell, cell_grants_by_cell}
use Rattle.verdict.specs.Laws.Near.{row_cells}
use Rattle.verdict.specs.Laws.ReductionVisit.{cells_within}
use Rattle.verdict.specs.ReductionWork.{Work, state_of, remaining_cells, WorkReady, Visited, Settled}
use Rattle.verdict.specs.Laws.ReductionWork.{part_all, visited_ready, visited_grows}

-- ---- the definition's sweeps

-- the reduction is what the sweeps still allowed lead to from here, and they are more than the grants that remain
pub record Pending (sheet : Sheet) (r : Reduction) : Type 0 where
  pub allowed : ℕ
  pub enough : length r.remaining < allowed
  pub rest : reduction sheet ≡ sweeps sheet allowed r

module _ (sheet : Sheet) (r : Reduction) where
  -- one of the sweeps allowed
  one_sweep : (allowed : ℕ) → length r.remaining < allowed → reduction sheet ≡ sweeps sheet allowed r
      → (more : ℕ) × (allowed ≡ suc more) × (reduction sheet
      ≡ cond (eqb (length (sweep sheet r).remaining) (length r.remaining)) (sweep sheet r)
      (sweeps sheet more (sweep sheet r)))
  one_sweep zero enough rest = absurd (not-suc-le-zero enough)
  one_sweep (suc more) enough rest = (more, refl, rest)

  pub settled : Pending sheet r → length (sweep sheet r).remaining ≡ length r.remaining
      → sweep sheet r ≡ reduction sheet
  settled p same =
      let one = one_sweep p.allowed p.enough p.rest in
      sym (one.2 ∙ rw (eq-eqb (length (sweep sheet r).remaining) (length r.remaining) same))

  pub pending_next : Pending sheet r → length (sweep sheet r).remaining < length r.remaining
      → Pending sheet (sweep sheet r)
  pending_next p fewer =
      let one = one_sweep p.allowed p.enough p.rest in
      record {
        allowed = one.0;
        enough = omega (arith, p.enough, one.1);
        rest = one.2 ∙ rw (ne_eqb (length (sweep sheet r).remaining) (length r.remaining) (λ e. omega arith));
      }

-- ---- the cells that remain

-- nothing more passes from m on
count_until : (m n : ℕ) (f : ℕ → Bool) → m ≤ n → ((i : ℕ) → m ≤ i → f i ≡ false) → count_below n f ≡ count_below m f
count_until m n f l h =
    let k = le_dest l in
    rw (
      ← k.1,
      count_below_add m k.0 f,
      count_below_none_intro k.0 (λ i. f (m + i))
          (λ i j. h (m + i) (omega arith)),
    ) (omega arith)

module _ {rows : List ℕ} {users : ℕ} {sheet : Sheet} (shown : Shown rows users sheet) where
  beyond : {left : List ℕ} → Part left rows → (n : ℕ) → users * row_bits ≤ n → marked left n ≡ false
  beyond {left} part n past =
      fails_unless (marked left n) (λ p.
      let inside = (div-lt_iff_lt-mul row_bits_pos).0 (shown.few (n / row_bits) (n % row_bits)
      (sym (marked_holds shown n) ∙ part.held n p)) in
      omega arith)

  -- as many cells as grants remain
  pub remaining_count : {left : List ℕ} → users ≤ user_limit → Part left rows → length (cell_grants sheet left) ≡
      remaining_cells left
  remaining_count {left} few part =
      ap length (cell_grants_by_cell shown part)
      ∙ length-map (passing_below (users * row_bits) (marked left)) grant_of
      ∙ passing_length (users * row_bits) (marked left)
      ∙ sym (count_until (users * row_bits) cell_limit (marked left) (rw (row_cells users) at (cells_within few))
      (beyond part))

  -- at first all grants remain
  pub all_remain : cell_grants sheet rows ≡ grants sheet
  all_remain = cell_grants_by_cell shown (part_all rows) ∙ sym (grants_by_cell shown)

  -- to visit all cells that remain is a sweep
  pub visited_sweep : {before after : Work} → Part before.left rows
      → Visited rows users (passing_below (cells_of users) (marked before.left)) before after
      → state_of sheet after ≡ sweep sheet (state_of sheet before)
  visited_sweep {before} part visited =
      visited.state sheet shown
      ∙ ap (λ l. visits sheet l (state_of sheet before))
      (ap (λ n. map grant_of (passing_below n (marked before.left))) (row_cells users)
      ∙ sym (cell_grants_by_cell shown part))

  pub pending_at_first : (removed partner : List ℕ)
      → Pending sheet (state_of sheet (record { left = rows; removed = removed; partner = partner; count = 0 }))
  unfolding reduction
  pending_at_first removed partner =
      record {
        allowed = suc (length (grants sheet));
        enough = rw all_remain (le_refl (suc (length (grants sheet))));
        rest = rw all_remain;
      }

-- ---- the code's sweeps

-- sweeps go on
pub record Settling (rows : List ℕ) (users : ℕ) (now : Work) : Type 0 where
  pub ready : WorkReady rows users now
  pub pending : (sheet : Sheet) → Shown rows users sheet → Pending sheet (state_of sheet now)

module _ {rows : List ℕ} {users : ℕ} {before after : Work} (settling : Settling rows users before)
    (visited : Visited rows users (passing_below (cells_of users) (marked before.left)) before after) where
  after_ready : WorkReady rows users after
  after_ready = visited_ready settling.ready visited

  -- as many removals more as grants fewer
  balance : (sheet : Sheet) → Shown rows users sheet
      → after.count + length (cell_grants sheet after.left) ≡ before.count + length
      (cell_grants sheet before.left)
  balance sheet shown =
      rw (
        remaining_count shown settling.ready.shows.few_users after_ready.part,
        remaining_count shown
            settling.ready.shows.few_users settling.ready.part,
      )
      visited.total

  pub settling_done : after.count ≡ before.count → Settled rows users after
  settling_done same =
      record {
        ready = after_ready;
        whole = λ sheet shown.
            let swept = visited_sweep shown settling.ready.part visited in
            swept
            ∙ settled sheet (state_of sheet before) (settling.pending sheet shown)
            (ap (λ r. length r.remaining) (sym swept) ∙ omega (arith, balance sheet shown));
      }

  pub settling_next : (after.count ≡ before.count → ⊥) → Settling rows users after
  settling_next more =
      record {
        ready = after_ready;
        pending = λ sheet shown.
            let swept = visited_sweep shown settling.ready.part visited in
            rw swept (pending_next sheet (state_of sheet before) (settling.pending sheet shown)
            (rw (ap (λ r. length r.remaining) (sym swept))
            (omega (arith, balance sheet shown, visited_grows visited))));
      }
