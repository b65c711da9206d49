-- A list of grants and its numbers. A placement in which the numbers of one class fit is a classing of the grants,
-- each by the class of its number; and a classing of the grants is one of their numbers. So what is shown of
-- placements holds of classings of grants, and back.
use Rattle.std.specs.Prelude.{ℕ, ◌≤◌, ◌<◌, ◌≡◌, length}
use Rattle.std.proofs.Common.{arith, sym, subst, subst₂, ◌∙◌, ⊎_elim}
use Rattle.std.proofs.Math.Bool.{So}
use mathlib.Core.List.{List, reverse, Memᴰ}
use Rattle.spec.specs.Sheet.{Sheet, Grant}
use Rattle.spec.specs.Fit.{fits}
use Rattle.spec.specs.Cover.{used, grant_at, fit_at}
use Rattle.spec.specs.Roles.{paired, class_of}
use Rattle.bits.specs.Laws.Below.{below_or_from}
use Rattle.lists.specs.Classing.{class_in, Valid, Grown, Classing}
use Rattle.lists.specs.PlacementLaws.{class_below_used, valid_elim, grown_member}
use Rattle.fit.specs.Laws.Fit.{Held, fits_symmetric, fits_itself}
use Rattle.cells.specs.Laws.Number.{grant_at_member, Numbered, member_number, Different}
use Rattle.roles.specs.Laws.Paired.{paired_class}
use Rattle.minimality.specs.GrantClassing.{ClassingOf}
use Rattle.minimality.specs.ClassRoles.{InClass}

-- a classing of the grants, by number
pub classing_of_numbers : {sheet : Sheet} {l : List Grant} {count : ℕ} {class : Grant → ℕ} → ClassingOf sheet l count
    class
    → Classing (fit_at sheet l) (length l) count (λ i. class (grant_at l i))
classing_of_numbers {sheet} {l} {count} {class} classing =
    record {
      within = λ i k. classing.within (grant_at l i) (grant_at_member l i k);
      fitting = λ i j k m e.
          classing.fitting (grant_at l i) (grant_at l j) (grant_at_member l i m) (grant_at_member l j (omega arith)) e;
    }

module _ (sheet : Sheet) (l : List Grant) (placed : List ℕ) (whole : length l ≡ length placed) (differ : Different l)
  where
    -- a grant's class is that of its number
    class_of_number : {g : Grant} (found : Numbered l g) → class_of (paired (reverse l) placed) g ≡ class_in placed
        found.number
    class_of_number found = rw found.there at (paired_class l placed whole differ found.number
        (rw (← whole) found.within))

    -- two numbers of one class fit
    numbers_fit : ((g : Grant) → Memᴰ g l → Held sheet g) → Valid (fit_at sheet l) placed
        → (i j : ℕ) → i < length placed → j < length placed → class_in placed i ≡ class_in placed j
        → So (fits sheet (grant_at l i) (grant_at l j))
    numbers_fit held valid i j k m e =
        ⊎_elim
        (λ (n : i < j). fits_symmetric sheet (grant_at l i) (grant_at l j) ∙ valid_elim (fit_at sheet l) placed valid j
        i n m (sym e))
        (λ (n : j ≤ i). ⊎_elim (λ (o : j < i). valid_elim (fit_at sheet l) placed valid i j o k e)
        (λ (o : i ≤ j). itself (omega arith))
        (below_or_from j i))
        (below_or_from i j)
      where
        itself : i ≡ j → So (fits sheet (grant_at l i) (grant_at l j))
        itself s =
            subst (λ n. So (fits sheet (grant_at l i) (grant_at l n))) s
            (fits_itself sheet (grant_at l i) (held (grant_at l i) (grant_at_member l i (rw whole k))))

    -- a placement in which the numbers of one class fit classes the grants
    pub placement_classes : ((g : Grant) → Memᴰ g l → Held sheet g) → Valid (fit_at sheet l) placed
        → ClassingOf sheet l (used placed) (class_of (paired (reverse l) placed))
    placement_classes held valid =
        record {
          within = λ g m. inside (member_number l m);
          fitting = λ g h m n e. together (member_number l m) (member_number l n) e;
        }
      where
        inside : {g : Grant} → Numbered l g → class_of (paired (reverse l) placed) g < used placed
        inside found = rw (class_of_number found) (class_below_used placed (rw (← whole) found.within))

        together : {g h : Grant} → Numbered l g → Numbered l h
            → class_of (paired (reverse l) placed) g ≡ class_of (paired (reverse l) placed) h → So (fits sheet g h)
        together found other e =
            subst₂ (λ g h. So (fits sheet g h)) found.there other.there
            (numbers_fit held valid found.number other.number (rw (← whole) found.within)
            (rw (← whole) other.within)
            (sym (class_of_number found) ∙ e ∙ class_of_number other))

    -- in a grown placement every class has a grant
    pub placed_class_has_a_grant : Grown placed → (c : ℕ) → c < used placed → InClass l (paired (reverse l) placed) c
    placed_class_has_a_grant grown c k =
        let r = grown_member placed grown k in
        record {
          grant = grant_at l r.number;
          member = grant_at_member l r.number (rw whole r.within);
          of_class = paired_class l placed whole differ r.number r.within ∙ r.classed;
        }
