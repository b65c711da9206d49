-- The grants placed, once one more is placed or the latest is taken back: a grant that opens a class is one class
-- more and is marked, so that taking it back is one class fewer; any other leaves the classes in use.
use Rattle.std.specs.Prelude.{ℕ, suc, ◌-◌, ◌≤◌, ◌<◌, max, ◌≡◌, refl, cond, List, eqb, length, get_or, set}
use Rattle.std.proofs.Common.{◌∙◌, ⊎_elim, le_refl, arith, eqb-true, eq-eqb, ne_eqb, get_or-set_same, get_or-set_other}
use Rattle.std.proofs.Math.Nat.{le_step}
use Rattle.std.proofs.lemmas.Bool.{eqb-false}
use Rattle.spec.specs.Cover.{used}
use Rattle.bits.specs.Truth.{passes_or_fails}
use Rattle.bits.specs.Counting.{one_if}
use Rattle.bits.specs.Laws.Below.{last_or_below}
use Rattle.lists.specs.GrownLaws.{grown_used_le}
use Rattle.lists.specs.LatestFirst.{latest_first, latest_first_length, latest_first_later}
use Rattle.marks.specs.declared.marks.Marks.{Marks}
use Rattle.marks.specs.Marks.{marked}
use Rattle.moves.specs.Parts.{Trail}

-- no grant is placed
pub trail_none : (size : ℕ) (opened : Marks) (classes : List ℕ) → Trail size 0 0 opened classes
trail_none size opened classes =
    record { depth_within = omega arith; grown = tt; used_counted = refl; opened_marked = λ i l. absurd (omega arith) }

-- at most as many classes as grants
pub trail_used_le : {size depth in_use : ℕ} {opened : Marks} {classes : List ℕ} → Trail size depth in_use opened
    classes → in_use ≤ depth
trail_used_le {depth} {in_use} {classes} s =
    omega (
      arith,
      s.used_counted,
      grown_used_le (latest_first classes depth) s.grown,
      latest_first_length classes
          depth,
    )

-- grant d placed in a class that is in use or the next one
pub trail_placed : {size d in_use : ℕ} {opened : Marks} {classes : List ℕ} → Trail size d in_use opened classes
    → (class in_use' : ℕ) (opened' : Marks) → d < length classes → d < size → class ≤ in_use
    → in_use' ≡ max (suc class) in_use
    → ((i : ℕ) → marked opened' i ≡ cond (eqb i d) (eqb class in_use) (marked opened i))
    → Trail size (suc d) in_use' opened' (set classes d class)
trail_placed {size} {d} {in_use} {opened} {classes} s class in_use' opened' stored room l more marks =
    record {
      depth_within = room;
      grown = rw (here, earlier) (rw s.used_counted at l, s.grown);
      used_counted = rw (here, earlier, ← s.used_counted) more;
      opened_marked = opens;
    }
  where
    here : get_or (set classes d class) d 0 ≡ class
    here = get_or-set_same classes d class 0 stored

    earlier : latest_first (set classes d class) d ≡ latest_first classes d
    earlier = latest_first_later classes d class d (le_refl d)

    opens : (i : ℕ) → i < suc d → marked opened' i ≡ eqb (get_or (set classes d class) i 0)
        (used (latest_first (set classes d class) i))
    opens i k =
        ⊎_elim
        (λ (e : i ≡ d). marks i ∙ rw (e, eq-eqb d d refl, here, earlier, s.used_counted))
        (λ (h : i < d).
        marks i
        ∙ rw (
          ne_eqb i d (λ e. omega arith),
          get_or-set_other classes d i class 0 (λ e. omega arith),
          latest_first_later classes d class i (omega arith),
        )
        (s.opened_marked i h))
        (last_or_below k)

-- the latest grant taken back
pub trail_taken_back : {size in_use : ℕ} (d : ℕ) {opened : Marks} {classes : List ℕ} → Trail size (suc d) in_use
    opened classes
    → Trail size d (in_use - one_if (marked opened d)) opened classes
trail_taken_back {size} {in_use} d {opened} {classes} s =
    record {
      depth_within = omega (arith, s.depth_within);
      grown = s.grown.1;
      used_counted = counted;
      opened_marked = λ i l. s.opened_marked i (le_step l);
    }
  where
    counted : in_use - one_if (marked opened d) ≡ used (latest_first classes d)
    counted =
        ⊎_elim
        (λ e.
        let opened_it : get_or classes d 0 ≡ used (latest_first classes d) = eqb-true (get_or classes d 0)
        (used (latest_first classes d)) e in
        rw (s.opened_marked d (le_refl (suc d)), e) (omega (arith, s.used_counted)))
        (λ e.
        let joined_it = eqb-false (get_or classes d 0) (used (latest_first classes d)) e in
        rw (s.opened_marked d (le_refl (suc d)), e) (omega (arith, s.used_counted, s.grown.0)))
        (passes_or_fails (eqb (get_or classes d 0) (used (latest_first classes d))))

-- a class is in use where a grant is placed
pub trail_used_pos : {size in_use : ℕ} (d : ℕ) {opened : Marks} {classes : List ℕ} → Trail size (suc d) in_use opened
    classes → 0 < in_use
trail_used_pos d s = omega (arith, s.used_counted)
