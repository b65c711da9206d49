-- The witness: grants of the sheet of which no two fit, as many as were chosen and were single. A single fits nothing
-- that remained at its moment, so no later single and no grant of the kernel; the chosen grants stand in the kernel,
-- and no two of them fit. A held grant fits itself, so grants that do not fit are different: none is counted twice.
use Rattle.std.specs.Prelude.{◌+◌, ◌≡◌, ◌≢◌, ◌||◌, length}
use Rattle.std.proofs.Common.{arith, ⊎_elim, length-append}
use mathlib.Core.List.Memᴰ
use mathlib.Core.List.{List, ◌++◌, Memᴰ}
use Rattle.spec.specs.Sheet.{Sheet, Grant, grants}
use Rattle.spec.specs.Fit.{among}
use Rattle.spec.specs.Reduction.{singles}
use Rattle.spec.specs.Witness.{chosen, witness}
use Rattle.bits.specs.Truth.{not_both, or_left, or_right, or_cases}
use Rattle.lists.specs.TestLaws.{filter_member, filter_kept, member_at}
use Rattle.lists.specs.Ordered.{Ordered, ordered_places, ordered_append, ordered_filter}
use Rattle.lists.specs.Distinct.{Distinct, ordered_distinct, ordered_either, distinct_within}
use Rattle.cells.specs.Laws.Grant.{grant_held}
use Rattle.fit.specs.Laws.Among.{among_member, member_among}
use Rattle.fit.specs.Laws.Fit.{fits_itself}
use Rattle.minimality.specs.GrantClassing.{Independent}
use Rattle.minimality.specs.Removals.{Unfit, grants_distinct}
use Rattle.reduction.specs.Laws.RemovedGranted.{kernel_granted}
use Rattle.minimality.specs.Singles.{unfit_turned, single_granted, single_unfit_kernel, singles_apart}
use Rattle.minimality.specs.Chosen.{chosen_member, chosen_apart}

-- ---- the grants chosen and all singles

-- one list after the other
abbrev pub chosen_and_singles : Sheet → List Grant
chosen_and_singles sheet = chosen sheet ++ singles sheet

pub chosen_granted : (sheet : Sheet) {g : Grant} → Memᴰ g (chosen sheet) → Memᴰ g (grants sheet)
chosen_granted sheet m = kernel_granted sheet _ (chosen_member sheet m)

chosen_and_singles_granted : (sheet : Sheet) {g : Grant} → Memᴰ g (chosen_and_singles sheet)
    → Memᴰ g (grants sheet)
chosen_and_singles_granted sheet m =
    ⊎_elim (chosen_granted sheet) (single_granted sheet) (Memᴰ.append_cases (chosen sheet) m)

chosen_and_singles_unfit : (sheet : Sheet) → Ordered (Unfit sheet) (chosen_and_singles sheet)
chosen_and_singles_unfit sheet =
    ordered_append (Unfit sheet) (chosen sheet) (singles sheet) (chosen_apart sheet) (singles_apart sheet)
    (λ g h m n. unfit_turned sheet h g (single_unfit_kernel sheet n (chosen_member sheet m)))

chosen_and_singles_distinct : (sheet : Sheet) → Distinct (chosen_and_singles sheet)
chosen_and_singles_distinct sheet =
    ordered_distinct (Unfit sheet) (chosen_and_singles sheet)
    (λ g m e. not_both (fits_itself sheet g (grant_held sheet (chosen_and_singles_granted sheet m))) e)
    (chosen_and_singles_unfit sheet)

-- ---- the witness

-- the witness's grants are grants of the sheet
pub witness_granted : (sheet : Sheet) {g : Grant} → Memᴰ g (witness sheet) → Memᴰ g (grants sheet)
unfolding witness
witness_granted sheet m = (filter_kept (λ g. among (chosen sheet) g || among (singles sheet) g) (grants sheet) m).member

-- each is chosen or single
pub witness_chosen_or_single : (sheet : Sheet) {g : Grant} → Memᴰ g (witness sheet)
    → Memᴰ g (chosen_and_singles sheet)
unfolding witness
witness_chosen_or_single sheet {g} m =
    ⊎_elim (λ e. Memᴰ.append_left (singles sheet) (among_member (chosen sheet) g e))
    (λ e. Memᴰ.append_right (chosen sheet) (among_member (singles sheet) g e))
    (or_cases (among (chosen sheet) g) (among (singles sheet) g)
    (filter_kept (λ g. among (chosen sheet) g || among (singles sheet) g) (grants sheet) m).passes)

pub witness_has : (sheet : Sheet) {g : Grant} → Memᴰ g (chosen_and_singles sheet) → Memᴰ g (witness sheet)
unfolding witness
witness_has sheet {g} m =
    filter_member (λ g. among (chosen sheet) g || among (singles sheet) g) (grants sheet)
    (chosen_and_singles_granted sheet m)
    (⊎_elim (λ n. or_left (among (chosen sheet) g) (among (singles sheet) g) (member_among (chosen sheet) n))
    (λ n. or_right (among (chosen sheet) g) (among (singles sheet) g) (member_among (singles sheet) n))
    (Memᴰ.append_cases (chosen sheet) m))

pub witness_distinct : (sheet : Sheet) → Distinct (witness sheet)
unfolding witness
witness_distinct sheet =
    ordered_filter ◌≢◌ (λ g. among (chosen sheet) g || among (singles sheet) g) (grants sheet) (grants_distinct sheet)

-- no two of its grants fit
pub witness_independent : (sheet : Sheet) → Independent sheet (witness sheet)
witness_independent sheet =
    record {
      apart = λ i j k l.
          ⊎_elim (λ e. absurd (ordered_places ◌≢◌ (witness sheet) (witness_distinct sheet) i j nowhere k l e)) (λ e. e)
          (ordered_either (Unfit sheet) (chosen_and_singles sheet) (unfit_turned sheet) (chosen_and_singles_unfit sheet)
          (witness_chosen_or_single sheet (member_at (witness sheet) i nowhere (omega arith)))
          (witness_chosen_or_single sheet (member_at (witness sheet) j nowhere l)));
    }
  where
    nowhere : Grant
    nowhere = record { user = 0; permission = 0 }

-- it has as many grants as were chosen and were single
pub witness_length : (sheet : Sheet) → length (witness sheet) ≡ length (chosen sheet) + length (singles sheet)
witness_length sheet =
    omega (
      arith,
      length-append (chosen sheet) (singles sheet),
      distinct_within (witness sheet) (chosen_and_singles sheet) (witness_distinct sheet)
          (λ g m. witness_chosen_or_single sheet m),
      distinct_within (chosen_and_singles sheet) (witness sheet) (chosen_and_singles_distinct sheet)
          (λ g m. witness_has sheet m),
    )
