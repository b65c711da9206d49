-- The grants that the witness takes from a list: they stand in it, no two of them fit, and every grant of the list is
-- one of them or fits one. Each choice drops the grant taken and all that fit it, so later ones do not fit it; and it
-- drops at least one grant, so as many choices as there are grants leave none.
use Rattle.std.specs.Prelude.{ℕ, zero, suc, ◌≤◌, ◌≡◌, refl, ◌⊎◌, false, not, ◌||◌, length}
use Rattle.std.proofs.Common.{arith, sym, ap, inl, inr, ⊎_elim}
use Rattle.std.proofs.Math.Bool.{So}
use mathlib.Core.List.Memᴰ
use mathlib.Core.List.{List, [], ◌∷◌, Memᴰ}
use Rattle.spec.specs.Vocabulary.{least, lesser}
use Rattle.spec.specs.Sheet.{Sheet, Grant, same_grant}
use Rattle.spec.specs.Fit.{fits, partners}
use Rattle.spec.specs.Reduction.{kernel}
use Rattle.spec.specs.Witness.{left_after, taken, chosen}
use Rattle.bits.specs.Truth.{passes_or_fails, not_passes, not_fails, or_left, or_cases, or_fails_right}
use Rattle.lists.specs.TestLaws.{filter_member, filter_kept}
use Rattle.lists.specs.Ordered.{Ordered}
use Rattle.lists.specs.FilterLength.{filter_shorter}
use Rattle.lists.specs.LeastLaws.{least_member}
use Rattle.cells.specs.Laws.Grant.{same_grant_refl, same_grant_equal}
use Rattle.minimality.specs.Removals.{Unfit}

-- the grant that is taken from a list that is not empty
abbrev pub picked : Sheet → Grant → List Grant → Grant
picked sheet g rest =
    lesser (λ h. length (partners sheet (g ∷ rest) h)) g (least (λ h. length (partners sheet (g ∷ rest) h)) rest)

picked_member : (sheet : Sheet) (g : Grant) (rest : List Grant) → Memᴰ (picked sheet g rest) (g ∷ rest)
picked_member sheet g rest = least_member (λ h. length (partners sheet (g ∷ rest) h)) g rest

pub taken_member : (sheet : Sheet) (fuel : ℕ) (l : List Grant) {g : Grant} → Memᴰ g (taken sheet fuel l)
    → Memᴰ g l
taken_member sheet zero l m = absurd (Memᴰ.not-nil m)
taken_member sheet (suc more) [] m = m
taken_member sheet (suc more) (a ∷ rest) {g} m =
    let it = picked sheet a rest in
    ⊎_elim (λ e. Memᴰ.cast e (picked_member sheet a rest))
    (λ n. (filter_kept (λ h. not (same_grant it h || fits sheet it h)) (a ∷ rest)
    (taken_member sheet more (left_after sheet it (a ∷ rest)) n)).member)
    (Memᴰ.cases_cons m)

-- no two of the grants taken fit
pub taken_apart : (sheet : Sheet) (fuel : ℕ) (l : List Grant) → Ordered (Unfit sheet) (taken sheet fuel l)
taken_apart sheet zero l = tt
taken_apart sheet (suc more) [] = tt
taken_apart sheet (suc more) (a ∷ rest) =
    let it = picked sheet a rest in (
      λ h m. or_fails_right (same_grant it h) (fits sheet it h) (not_fails (same_grant it h || fits sheet it h)
          (filter_kept (λ k. not (same_grant it k || fits sheet it k)) (a ∷ rest)
          (taken_member sheet more (left_after sheet it (a ∷ rest)) m)).passes),
      taken_apart sheet more (left_after sheet it (a ∷ rest)),
    )

-- a grant is one of some grants, or fits one of them
pub record Met (sheet : Sheet) (some_grants : List Grant) (g : Grant) : Type 0 where
  pub by : Grant
  pub member : Memᴰ by some_grants
  pub fitting : (g ≡ by) ⊎ So (fits sheet by g)

-- with as many choices as there are grants nothing is left for further choice
pub taken_meets : (sheet : Sheet) (fuel : ℕ) (l : List Grant) → length l ≤ fuel → {g : Grant} → Memᴰ g l
    → Met sheet (taken sheet fuel l) g
taken_meets sheet zero [] enough m = absurd (Memᴰ.not-nil m)
taken_meets sheet zero (a ∷ rest) enough m = absurd (omega arith)
taken_meets sheet (suc more) [] enough m = absurd (Memᴰ.not-nil m)
taken_meets sheet (suc more) (a ∷ rest) enough {g} m =
    choose (passes_or_fails (same_grant it g || fits sheet it g))
    (taken_meets sheet more (left_after sheet it (a ∷ rest)) (omega (arith, shorter)))
  where
    it : Grant
    it = picked sheet a rest

    shorter : suc (length (left_after sheet it (a ∷ rest))) ≤ length (a ∷ rest)
    shorter =
        filter_shorter (λ h. not (same_grant it h || fits sheet it h)) (a ∷ rest) (picked_member sheet a rest)
        (ap not (or_left (same_grant it it) (fits sheet it it) (same_grant_refl it)))

    choose : So (same_grant it g || fits sheet it g) ⊎ ((same_grant it g || fits sheet it g) ≡ false)
        → (Memᴰ g (left_after sheet it (a ∷ rest))
        → Met sheet (taken sheet more (left_after sheet it (a ∷ rest))) g)
        → Met sheet (it ∷ taken sheet more (left_after sheet it (a ∷ rest))) g
    choose (inl p) later =
        record {
          by = it;
          member = Memᴰ.head refl;
          fitting = ⊎_elim (λ e. inl (sym (same_grant_equal it g e))) (λ e. inr e)
              (or_cases (same_grant it g) (fits sheet it g) p);
        }
    choose (inr f) later =
        let r =
        later (filter_member (λ h. not (same_grant it h || fits sheet it h)) (a ∷ rest) m
        (not_passes (same_grant it g || fits sheet it g) f))
        in
        record { by = r.by; member = Memᴰ.tail r.member; fitting = r.fitting }

-- ---- the grants taken from the kernel

pub chosen_member : (sheet : Sheet) {g : Grant} → Memᴰ g (chosen sheet) → Memᴰ g (kernel sheet)
unfolding chosen
chosen_member sheet m = taken_member sheet (length (kernel sheet)) (kernel sheet) m

pub chosen_apart : (sheet : Sheet) → Ordered (Unfit sheet) (chosen sheet)
unfolding chosen
chosen_apart sheet = taken_apart sheet (length (kernel sheet)) (kernel sheet)

-- every grant of the kernel is chosen or fits a chosen one
pub chosen_meets : (sheet : Sheet) {g : Grant} → Memᴰ g (kernel sheet) → Met sheet (chosen sheet) g
unfolding chosen
chosen_meets sheet m = taken_meets sheet (length (kernel sheet)) (kernel sheet) (omega arith) m
