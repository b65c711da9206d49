-- How the classes by cell grow: a class written at a cell is the class of that grant from then on, and leaves the
-- others, since no two cells are one grant. So a kernel's placement written cell by cell gives the paired classes,
-- and a removal gone back over gives the classes it is put back to.
use Rattle.std.specs.Prelude.{ℕ, suc, ◌+◌, ◌<◌, ◌≡◌, ◌≢◌, false, cond, List, [], ◌∷◌, reverse, eqb, get_or, set, replicate}
use Rattle.std.proofs.Common.{add-one, arith, sym, ap, ◌∙◌, ⊎_elim, eqb-true, eq-eqb, ne_eqb, length-set, get_or-set_same, get_or-set_other}
use Rattle.std.proofs.Math.Bool.{So}
use Rattle.std.proofs.lemmas.List.{reverse-append, length-replicate, get_or-replicate}
use Rattle.std.proofs.lemmas.Bool.{eqb-false}
use Rattle.spec.specs.Sheet.{same_grant}
use Rattle.spec.specs.Roles.{Classed, Classes, class_of, put_back}
use Rattle.bits.specs.Truth.{passes_or_fails, same_truth}
use Rattle.lists.specs.ListOfLaws.{list_of_last}
use Rattle.cells.specs.Laws.Grant.{same_grant_equal, equal_same_grant}
use Rattle.cell_rows.specs.CellPlaces.{cell_limit, grant_of}
use Rattle.cells.specs.Laws.CellList.{cell_of, cell_of_grant}
use Rattle.verdict.specs.Log.{removal_of}
use Rattle.roles.specs.CellClasses.{ClassAt, ClassesAt, listed, paired_in}

-- ---- cells and grants

-- two cells are one grant exactly if they are one cell
pub same_cell : (m n : ℕ) → same_grant (grant_of m) (grant_of n) ≡ eqb m n
same_cell m n =
    same_truth (same_grant (grant_of m) (grant_of n)) (eqb m n)
    (λ e. eq-eqb m n (sym (cell_of_grant m) ∙ ap cell_of (same_grant_equal (grant_of m) (grant_of n) e)
    ∙ cell_of_grant n))
    (λ e. equal_same_grant (ap grant_of (eqb-true m n e)))

-- the next grant of a list, first where the list is read backwards
pub listed_next : (cells : List ℕ) (i : ℕ) → reverse (listed cells (suc i)) ≡ grant_of (get_or cells i 0) ∷ reverse
    (listed cells i)
listed_next cells i =
    rw (list_of_last i (λ j. grant_of (get_or cells j 0))) (reverse-append (listed cells i)
    (grant_of (get_or cells i 0) ∷ []))

-- ---- one class written

pub no_classes : (n : ℕ) → n ≡ cell_limit → ClassAt (replicate n 0) []
no_classes n wide = record { wide = length-replicate n 0 ∙ wide; shown = λ i l. get_or-replicate n i 0 0 (omega arith) }

pub class_written : {class : List ℕ} {members : List Classed} (it c : ℕ) → it < cell_limit → ClassAt class members
    → ClassAt (set class it c) (record { grant = grant_of it; class = c } ∷ members)
class_written {class} {members} it c within at =
    record {
      wide = length-set class it c ∙ at.wide;
      shown = λ n l. rw (same_cell n it) (⊎_elim (here n) (other n l) (passes_or_fails (eqb n it)));
    }
  where
    here : (n : ℕ) → So (eqb n it) → get_or (set class it c) n 0 ≡ cond (eqb n it) c (class_of members (grant_of n))
    here n e = rw (e, eqb-true n it e) (get_or-set_same class it c 0 (rw at.wide within))

    other : (n : ℕ) → n < cell_limit → eqb n it ≡ false → get_or (set class it c) n 0 ≡ cond (eqb n it) c
        (class_of members (grant_of n))
    other n l e = rw (e, get_or-set_other class it n c 0 (eqb-false n it e)) (at.shown n l)

-- ---- the kernel

pub paired_next : (cells placed : List ℕ) (i : ℕ)
    → paired_in cells placed (suc i) ≡ record { grant = grant_of (get_or cells i 0); class = get_or placed i 0 } ∷
    paired_in cells placed i
paired_next cells placed i = rw (listed_next cells i)

pub kernel_grant_written : {class : List ℕ} (cells placed : List ℕ) (i : ℕ) → get_or cells i 0 < cell_limit
    → ClassAt class (paired_in cells placed i) → ClassAt (set class (get_or cells i 0) (get_or placed i 0))
    (paired_in cells placed (i + 1))
kernel_grant_written cells placed i within at =
    rw (add-one i, paired_next cells placed i) (class_written (get_or cells i 0) (get_or placed i 0) within at)

-- ---- a removal gone back over

module _ {class : List ℕ} {count more c : ℕ} {classes : Classes} (it partner : ℕ) (within : it < cell_limit)
    (at : ClassesAt class count classes) where
  pub single_written : it ≡ partner → more ≡ count + 1 → c ≡ count
      → ClassesAt (set class it c) more (put_back (removal_of it partner) classes)
  single_written e opened written =
      rw (eq-eqb it partner e)
      (record {
        each = rw (written, at.total) (class_written it classes.count within at.each);
        total = omega
            (arith, at.total);
      })

  pub tied_written : it ≢ partner → partner < cell_limit → more ≡ count → c ≡ get_or class partner 0
      → ClassesAt (set class it c) more (put_back (removal_of it partner) classes)
  tied_written e l same written =
      rw (ne_eqb it partner e)
      (record {
        each = rw (written, at.each.shown partner l) (class_written it
            (class_of classes.members (grant_of partner)) within at.each);
        total = same ∙ at.total;
      })
