-- The classes below `class_end` are those from 0 up to the next one with which fewer classes are in use than the best
-- placement has, so that the machine's choice is the lowest of them that is not below the next try and that the grant
-- can join.
use Rattle.std.specs.Prelude.{ℕ, zero, suc, ◌≤◌, ◌<◌, max, min, pred, ◌≡◌, Bool, false, List}
use Rattle.std.proofs.Common.{⊎_elim, arith, ltb-true, lt-ltb, le-ltb}
use Rattle.std.proofs.Math.Bool.{So, and-true, and-eq-true_iff}
use Rattle.spec.specs.Vocabulary.{lowest_below}
use Rattle.spec.specs.Cover.{used}
use Rattle.spec.specs.Machine.{Kernel, State, depth, best_count, possible, choice}
use Rattle.bits.specs.Truth.{fails_unless}
use Rattle.bits.specs.Laws.Below.{below_or_from}
use Rattle.moves.specs.declared.cursor.Sizes.{Sizes}
use Rattle.moves.specs.FitTable.{kernel_given}
use Rattle.moves.specs.OpenTo.{class_end, joinable}
use Rattle.bits.specs.Laws.Cut.{lowest_below_cut}
use Rattle.lists.specs.LatestFirst.{latest_first, latest_first_length}

-- class c may be tried
pub record Tried (depth size in_use count c : ℕ) : Type 0 where
  pub room : depth < size
  pub used_or_next : c ≤ in_use
  pub below_best : max in_use (suc c) < count

pub below_class_end : (depth size in_use count : ℕ) {c : ℕ} → c < class_end depth size in_use count
    → Tried depth size in_use count c
below_class_end depth size in_use count {c} l =
    ⊎_elim
    (λ (d : depth < size).
    ⊎_elim
    (λ (u : in_use < count).
    let k : c < min (suc in_use) (pred count) = rw (lt-ltb depth size d, lt-ltb in_use count u) at l in
    record { room = d; used_or_next = omega arith; below_best = omega arith })
    (λ (u : count ≤ in_use). let k : c < 0 = rw (lt-ltb depth size d, le-ltb in_use count u) at l
    in absurd (omega arith))
    (below_or_from in_use count))
    (λ (d : size ≤ depth). let k : c < 0 = rw (le-ltb depth size d) at l in absurd (omega arith))
    (below_or_from depth size)

pub within_class_end : (depth size in_use count : ℕ) {c : ℕ} → Tried depth size in_use count c
    → c < class_end depth size in_use count
within_class_end depth size in_use count w =
    let less : in_use < count = omega (arith, w.below_best) in
    rw (lt-ltb depth size w.room, lt-ltb in_use count less) (omega (arith, w.used_or_next, w.below_best))

-- no class past the next one
pub class_end_le : (depth size in_use count : ℕ) → class_end depth size in_use count ≤ suc in_use
class_end_le depth size in_use count = from (class_end depth size in_use count)
    (λ c l. below_class_end depth size in_use count l)
  where
    from : (end : ℕ) → ((c : ℕ) → c < end → Tried depth size in_use count c) → end ≤ suc in_use
    from zero w = omega arith
    from (suc c) w = omega (arith, (w c (omega arith)).used_or_next)

-- a possible class up to the next one may be tried
possible_tried : (kernel : Kernel) (st : State) (c : ℕ) → c ≤ used st.placed → So (possible kernel st c)
    → Tried (depth st) kernel.size (used st.placed) (best_count st) c
possible_tried kernel st c l e =
    let tests = simp and-eq-true_iff at e in
    record {
      room = ltb-true (depth st) kernel.size tests.0.0.0;
      used_or_next = l;
      below_best = ltb-true (max (used st.placed) (suc c)) (best_count st) tests.0.1;
    }

-- the machine's choice is the lowest class below `class_end` that can be joined
pub choice_below_end : (table : List ℕ) (sizes : Sizes) (classes best : List ℕ) (d next : ℕ) (finished : Bool)
    → choice (kernel_given table sizes)
    (record {
      placed = latest_first classes d;
      next = next;
      best = latest_first best sizes.kernel;
      finished =
          finished;
    })
    ≡ lowest_below (class_end d sizes.kernel (used (latest_first classes d))
    (used (latest_first best sizes.kernel)))
    (joinable table classes d next)
choice_below_end table sizes classes best d next finished =
    lowest_below_cut (suc in_use) end (possible kernel st) (joinable table classes d next)
    (class_end_le d size in_use count) same later
  where
    kernel : Kernel
    kernel = kernel_given table sizes

    size : ℕ
    size = sizes.kernel

    st : State
    st = record { placed = latest_first classes d; next = next; best = latest_first best size; finished = finished }

    in_use : ℕ
    in_use = used (latest_first classes d)

    count : ℕ
    count = used (latest_first best size)

    end : ℕ
    end = class_end d size in_use count

    same : (c : ℕ) → c < end → possible kernel st c ≡ joinable table classes d next c
    same c l =
        let w = below_class_end d size in_use count l in
        rw (
          latest_first_length classes d,
          lt-ltb d size w.room,
          lt-ltb (max in_use (suc c)) count w.below_best,
          and-true,
        )

    later : (c : ℕ) → end ≤ c → c < suc in_use → possible kernel st c ≡ false
    later c l k =
        fails_unless (possible kernel st c) (λ e.
        let w = possible_tried kernel st c (omega arith) e in
        let m : c < end = within_class_end d size in_use count (rw (latest_first_length classes d) at w) in
        omega arith)
