-- Going back over the removals: classes of what remains become classes of all grants. A single opens a class that
-- nothing shares. A tied grant joins its partner's class: whoever is in that class fits the partner, so it fits the
-- tied grant. An induction on how the state was reached, latest first.
use Rattle.std.specs.Prelude.{ℕ, suc, ◌+◌, ◌≤◌, ◌<◌, ◌≡◌, refl, ◌⊎◌, length}
use Rattle.std.proofs.Common.{le_refl, arith, sym, ap, ◌∙◌, inl, inr, ⊎_elim}
use Rattle.std.proofs.Math.Nat.{le_step, suc_inj}
use Rattle.std.proofs.Math.Bool.{So}
use mathlib.Core.List.Memᴰ
use mathlib.Core.List.{List, [], ◌∷◌, map, reverse, Memᴰ}
use Rattle.std.proofs.lemmas.List.{length-reverse}
use Rattle.spec.specs.Sheet.{Sheet, Grant, same_grant, grants}
use Rattle.spec.specs.Fit.{fits, without}
use Rattle.spec.specs.Reduction.{Removal, single, tied, Reduction, reduction, kernel, singles_of, singles}
use Rattle.spec.specs.Cover.{used}
use Rattle.spec.specs.Roles.{Classed, Classes, paired, class_of, put_back, put_all_back, kernel_classes, classes_of}
use Rattle.bits.specs.Truth.{fails_unless}
use Rattle.bits.specs.Laws.Below.{last_or_below}
use Rattle.lists.specs.Distinct.{Distinct, reverse_member, reverse_only, reverse_distinct}
use Rattle.cells.specs.Laws.Grant.{same_grant_refl, same_grant_equal, grant_held}
use Rattle.fit.specs.Laws.Fit.{Held, fits_symmetric, fits_itself}
use Rattle.reduction.specs.Laws.Without.{without_member, without_differs, without_cases}
use Rattle.minimality.specs.GrantClassing.{ClassingOf}
use Rattle.minimality.specs.KernelLaws.{kernel_distinct}
use Rattle.minimality.specs.ClassRoles.{InClass}
use Rattle.minimality.specs.Removals.{Dominating, Reached, at_first, by_single, by_tie, remaining_granted}
use Rattle.minimality.specs.Removals.{reduction_reached}

-- the grants of some members
abbrev pub grants_in : List Classed → List Grant
grants_in members = map (λ x. x.grant) members

-- the members are exactly these grants, each once, and those of one class fit
pub record ClassesOf (sheet : Sheet) (l : List Grant) (classes : Classes) : Type 0 where
  pub has : (g : Grant) → Memᴰ g l → Memᴰ g (grants_in classes.members)
  pub only : (g : Grant) → Memᴰ g (grants_in classes.members) → Memᴰ g l
  pub once : Distinct (grants_in classes.members)
  pub classing : ClassingOf sheet l classes.count (class_of classes.members)

-- every class below the count has a grant
abbrev pub AllInUse : List Grant → Classes → Type 0
AllInUse l classes = (c : ℕ) → c < classes.count → InClass l classes.members c

-- ---- one grant put back

-- a grant of a class in front of some members
abbrev pub joined_by : Grant → ℕ → List Classed → List Classed
joined_by it c members = record { grant = it; class = c } ∷ members

class_of_joined : (it : Grant) (c : ℕ) (members : List Classed) → class_of (joined_by it c members) it ≡ c
class_of_joined it c members = rw (same_grant_refl it)

class_of_other : (it : Grant) (c : ℕ) (members : List Classed) (l : List Grant) {g : Grant} → Memᴰ g (without it l)
    → class_of (joined_by it c members) g ≡ class_of members g
class_of_other it c members l {g} m =
    rw (fails_unless (same_grant g it) (λ e. without_differs it l m (sym (same_grant_equal g it e))))

module _ (sheet : Sheet) (l : List Grant) (it : Grant) (c count more : ℕ) (members : List Classed)
    (there : Memᴰ it l) where
  -- a grant joins a class whose members all fit it
  joining_classes : Held sheet it → count ≤ more → c < more
      → ((h : Grant) → Memᴰ h (without it l) → class_of members h ≡ c → So (fits sheet it h))
      → ClassingOf sheet (without it l) count (class_of members) → ClassingOf sheet l more
      (class_of (joined_by it c members))
  joining_classes held grows within all_fit classing =
      record {
        within = λ g m. inside g (without_cases it l m);
        fitting = λ g h m n. together g h
            (without_cases it l m) (without_cases it l n);
      }
    where
      inside : (g : Grant) → (g ≡ it) ⊎ Memᴰ g (without it l) → class_of (joined_by it c members) g < more
      inside g (inl e) = rw (e, class_of_joined it c members) within
      inside g (inr m) = rw (class_of_other it c members l m) (omega (arith, classing.within g m))

      together : (g h : Grant) → (g ≡ it) ⊎ Memᴰ g (without it l) → (h ≡ it) ⊎ Memᴰ h (without it l)
          → class_of (joined_by it c members) g ≡ class_of (joined_by it c members) h → So (fits sheet g h)
      together g h (inl p) (inl q) e = rw (p, q) (fits_itself sheet it held)
      together g h (inl p) (inr n) e =
          rw p (all_fit h n (sym (class_of_other it c members l n) ∙ sym e ∙ rw (p, class_of_joined it c members)))
      together g h (inr m) (inl q) e =
          rw q (fits_symmetric sheet g it ∙ all_fit g m (sym (class_of_other it c members l m) ∙ e
          ∙ rw (q, class_of_joined it c members)))
      together g h (inr m) (inr n) e =
          classing.fitting g h m n (sym (class_of_other it c members l m) ∙ e ∙ class_of_other it c members l n)

  -- and is a member from then on
  joining_members : ((h : Grant) → Memᴰ h (without it l) → class_of members h ≡ c → So (fits sheet it h))
      → Held sheet it
      → count ≤ more → c < more → ClassesOf sheet (without it l) (record { members = members; count = count })
      → ClassesOf sheet l (record { members = joined_by it c members; count = more })
  joining_members all_fit held grows within classes =
      record {
        has = λ g m. ⊎_elim (λ e. Memᴰ.head e) (λ n. Memᴰ.tail (classes.has g n)) (without_cases it l m);
        only = λ g m.
            ⊎_elim (λ e. Memᴰ.cast e there) (λ n. without_member it l (classes.only g n)) (Memᴰ.cases_cons m);
        once = (λ g m. without_differs it l (classes.only g m), classes.once);
        classing = joining_classes held grows within all_fit classes.classing;
      }

  -- where all earlier classes are in use and the grant's class is one of them or the next one, all are in use
  joining_fills : ((a : ℕ) → a < more → (a < count) ⊎ (a ≡ c)) → AllInUse (without it l)
      (record { members = members; count = count })
      → AllInUse l (record { members = joined_by it c members; count = more })
  joining_fills which filled a below = ⊎_elim earlier latest (which a below)
    where
      earlier : a < count → InClass l (joined_by it c members) a
      earlier k =
          let r = filled a k in
          record {
            grant = r.grant;
            member = without_member it l r.member;
            of_class = class_of_other it c members l r.member ∙ r.of_class;
          }

      latest : a ≡ c → InClass l (joined_by it c members) a
      latest e = record { grant = it; member = there; of_class = class_of_joined it c members ∙ sym e }

-- a single opens a class
pub single_opens_a_class : (sheet : Sheet) (l : List Grant) (it : Grant) (classes : Classes) → Memᴰ it l
    → Held sheet it
    → ClassesOf sheet (without it l) classes → ClassesOf sheet l (put_back (single it) classes)
single_opens_a_class sheet l it classes m held c =
    joining_members sheet l it classes.count classes.count (suc classes.count) classes.members m
    (λ h n e. absurd (omega (arith, c.classing.within h n, e))) held (le_step (le_refl classes.count))
    (le_refl (suc classes.count)) c

-- a tied grant joins its partner's class
pub tied_joins_its_partner : (sheet : Sheet) (l : List Grant) (it g : Grant) (classes : Classes) → Memᴰ it l
    → Held sheet it
    → Dominating sheet (without it l) it g → ClassesOf sheet (without it l) classes
    → ClassesOf sheet l (put_back (tied it g) classes)
tied_joins_its_partner sheet l it g classes m held dominating c =
    joining_members sheet l it (class_of classes.members g) classes.count classes.count classes.members m
    (λ h n e. dominating.fits_all h n (c.classing.fitting g h dominating.is_left n (sym e))) held
    (le_refl classes.count)
    (c.classing.within g dominating.is_left) c

-- ---- all of them put back

pub put_all_back_classes : {sheet : Sheet} {r : Reduction} (classes : Classes) → Reached sheet r
    → ClassesOf sheet r.remaining classes
    → ClassesOf sheet (grants sheet) (put_all_back r.removed classes)
put_all_back_classes classes at_first c = c
put_all_back_classes {sheet} classes (by_single {r} it reached m alone) c =
    put_all_back_classes (put_back (single it) classes) reached
    (single_opens_a_class sheet r.remaining it classes m (grant_held sheet (remaining_granted reached m)) c)
put_all_back_classes {sheet} classes (by_tie {r} it g reached m dominating) c =
    put_all_back_classes (put_back (tied it g) classes) reached
    (tied_joins_its_partner sheet r.remaining it g classes m (grant_held sheet (remaining_granted reached m))
    dominating c)

pub put_all_back_counts : (removed : List Removal) (classes : Classes)
    → (put_all_back removed classes).count ≡ classes.count + length (singles_of removed)
put_all_back_counts [] classes = omega arith
put_all_back_counts (single it ∷ earlier) classes =
    omega (arith, put_all_back_counts earlier (put_back (single it) classes))
put_all_back_counts (tied it g ∷ earlier) classes = put_all_back_counts earlier (put_back (tied it g) classes)

pub put_all_back_fills : {sheet : Sheet} {r : Reduction} (classes : Classes) → Reached sheet r
    → AllInUse r.remaining classes → AllInUse (grants sheet) (put_all_back r.removed classes)
put_all_back_fills classes at_first filled = filled
put_all_back_fills {sheet} classes (by_single {r} it reached m alone) filled =
    put_all_back_fills (put_back (single it) classes) reached
    (joining_fills sheet r.remaining it classes.count classes.count (suc classes.count) classes.members m
    (λ a k. ⊎_elim (λ e. inr e) (λ n. inl n) (last_or_below k)) filled)
put_all_back_fills {sheet} classes (by_tie {r} it g reached m dominating) filled =
    put_all_back_fills (put_back (tied it g) classes) reached
    (joining_fills sheet r.remaining it (class_of classes.members g) classes.count classes.count
    classes.members m
    (λ a k. inl k) filled)

-- ---- from a placement of the kernel

paired_grants : (l : List Grant) (placed : List ℕ) → length l ≡ length placed → grants_in (paired l placed) ≡ l
paired_grants [] placed e = refl
paired_grants (g ∷ l) [] e = absurd (omega arith)
paired_grants (g ∷ l) (c ∷ placed) e = ap (λ rest. g ∷ rest) (paired_grants l placed (suc_inj e))

kernel_classes_of : (sheet : Sheet) (placed : List ℕ) → length (kernel sheet) ≡ length placed
    → ClassingOf sheet (kernel sheet) (used placed) (class_of (paired (reverse (kernel sheet)) placed))
    → ClassesOf sheet (kernel sheet) (kernel_classes (kernel sheet) placed)
kernel_classes_of sheet placed e classing =
    let same = paired_grants (reverse (kernel sheet)) placed (length-reverse (kernel sheet) ∙ e) in
    record {
      has = λ g m. rw same (reverse_member (kernel sheet) m);
      only = λ g m. reverse_only (kernel sheet) (rw same at m);
      once = rw same (reverse_distinct (kernel sheet) (kernel_distinct sheet));
      classing = classing;
    }

-- a placement that classes the kernel gives classes of all grants
pub putting_back_classes : (sheet : Sheet) (placed : List ℕ) → length (kernel sheet) ≡ length placed
    → ClassingOf sheet (kernel sheet) (used placed) (class_of (paired (reverse (kernel sheet)) placed))
    → ClassesOf sheet (grants sheet) (classes_of (reduction sheet) placed)
unfolding kernel classes_of
putting_back_classes sheet placed e classing =
    put_all_back_classes (kernel_classes (kernel sheet) placed) (reduction_reached sheet)
    (kernel_classes_of sheet placed e classing)

-- as many as the placement has, and one for each single
pub putting_back_counts : (sheet : Sheet) (placed : List ℕ)
    → (classes_of (reduction sheet) placed).count ≡ used placed + length (singles sheet)
unfolding singles classes_of
putting_back_counts sheet placed =
    put_all_back_counts (reduction sheet).removed (kernel_classes (reduction sheet).remaining placed)

-- where every class of the placement has a grant of the kernel, every class has a grant
pub putting_back_fills : (sheet : Sheet) (placed : List ℕ)
    → ((c : ℕ) → c < used placed → InClass (kernel sheet) (paired (reverse (kernel sheet)) placed) c)
    → AllInUse (grants sheet) (classes_of (reduction sheet) placed)
unfolding kernel classes_of
putting_back_fills sheet placed filled =
    put_all_back_fills (kernel_classes (kernel sheet) placed) (reduction_reached sheet) filled
