-- The grants removed as single. A single fits nothing that remained at its moment, and what remains later remained
-- then too: so it fits no later single and nothing of the kernel. Each law is an induction on how a state was
-- reached.
use Rattle.std.proofs.Common.{◌∙◌, ⊎_elim}
use mathlib.Core.List.Memᴰ
use mathlib.Core.List.{Memᴰ}
use Rattle.spec.specs.Sheet.{Sheet, Grant, grants}
use Rattle.spec.specs.Reduction.{Reduction, kernel, singles_of, singles}
use Rattle.lists.specs.Ordered.{Ordered}
use Rattle.fit.specs.Laws.Fit.{fits_symmetric}
use Rattle.reduction.specs.Laws.Without.{without_member}
use Rattle.minimality.specs.Removals.{Unfit, Reached, at_first, by_single, by_tie, remaining_granted}
use Rattle.minimality.specs.Removals.{reduction_reached}

-- which of two is named first does not matter
pub unfit_turned : (sheet : Sheet) (g h : Grant) → Unfit sheet g h → Unfit sheet h g
unfit_turned sheet g h e = fits_symmetric sheet h g ∙ e

-- a single is a grant of the sheet
pub removed_single_granted : {sheet : Sheet} {r : Reduction} → Reached sheet r → {g : Grant}
    → Memᴰ g (singles_of r.removed)
    → Memᴰ g (grants sheet)
removed_single_granted at_first n = absurd (Memᴰ.not-nil n)
removed_single_granted (by_single it reached m alone) n =
    ⊎_elim (λ e. Memᴰ.cast e (remaining_granted reached m)) (λ k. removed_single_granted reached k)
    (Memᴰ.cases_cons n)
removed_single_granted (by_tie it g reached m dominating) n = removed_single_granted reached n

-- a single fits nothing that remains
pub removed_single_unfit : {sheet : Sheet} {r : Reduction} → Reached sheet r → {g h : Grant}
    → Memᴰ g (singles_of r.removed)
    → Memᴰ h r.remaining → Unfit sheet g h
removed_single_unfit at_first n k = absurd (Memᴰ.not-nil n)
removed_single_unfit (by_single {r} it reached m alone) {g} {h} n k =
    ⊎_elim (λ e. rw e (alone h k)) (λ j. removed_single_unfit reached j (without_member it r.remaining k))
    (Memᴰ.cases_cons n)
removed_single_unfit (by_tie {r} it g reached m dominating) n k =
    removed_single_unfit reached n (without_member it r.remaining k)

-- no two singles fit
pub removed_singles_apart : {sheet : Sheet} {r : Reduction} → Reached sheet r → Ordered (Unfit sheet)
    (singles_of r.removed)
removed_singles_apart at_first = tt
removed_singles_apart {sheet} (by_single it reached m alone) =
    (λ h n. unfit_turned sheet h it (removed_single_unfit reached n m), removed_singles_apart reached)
removed_singles_apart (by_tie it g reached m dominating) = removed_singles_apart reached

-- ---- the singles of a sheet

pub single_granted : (sheet : Sheet) {g : Grant} → Memᴰ g (singles sheet) → Memᴰ g (grants sheet)
unfolding singles
single_granted sheet m = removed_single_granted (reduction_reached sheet) m

pub single_unfit_kernel : (sheet : Sheet) {g h : Grant} → Memᴰ g (singles sheet) → Memᴰ h (kernel sheet)
    → Unfit sheet g h
unfolding kernel singles
single_unfit_kernel sheet m n = removed_single_unfit (reduction_reached sheet) m n

pub singles_apart : (sheet : Sheet) → Ordered (Unfit sheet) (singles sheet)
unfolding singles
singles_apart sheet = removed_singles_apart (reduction_reached sheet)
