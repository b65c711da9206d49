-- Going back over all removals, the latest first: from the classes so far the removals that are left lead to the
-- classes of all grants. Each removal opens at most one class, so every class number is below the kernel's classes
-- and the removals together.
use Rattle.std.specs.Prelude.{ℕ, zero, suc, ◌+◌, ◌-◌, ◌<◌, ◌≤◌, max, ◌≡◌, refl, Bool, true, false, cond, List, [], ◌∷◌, reverse, length, get_or}
use Rattle.std.proofs.Common.{sub-one, arith, ap}
use Rattle.spec.specs.Sheet.{Grant, same_grant}
use Rattle.spec.specs.Reduction.{Removal, single, tied}
use Rattle.spec.specs.Cover.{used}
use Rattle.spec.specs.Roles.{Classes, paired, class_of, put_back, put_all_back, kernel_classes, classes_of}
use Rattle.lists.specs.LatestFirst.{latest_first}
use Rattle.verdict.specs.Log.{removal_of, log_of}
use Rattle.roles.specs.CellClasses.{ClassAt, ClassesAt, listed, paired_in, classes_in}

-- ---- how great class numbers are

-- every class is below the count, and at least one is counted
abbrev Counted : Classes → Type 0
Counted classes = (g : Grant) → class_of classes.members g < max 1 classes.count

paired_counted : (l : List Grant) (placed : List ℕ) (g : Grant) → class_of (paired l placed) g < max 1 (used placed)
paired_counted [] placed g = omega arith
paired_counted (h ∷ l) [] g = omega arith
paired_counted (h ∷ l) (c ∷ placed) g = either (same_grant g h) (paired_counted l placed g)
  where
    either : (b : Bool) → class_of (paired l placed) g < max 1 (used placed)
        → cond b c (class_of (paired l placed) g) < max 1 (max (suc c) (used placed))
    either true later = omega arith
    either false later = omega arith

put_back_counted : (removal : Removal) (classes : Classes) → Counted classes → Counted (put_back removal classes)
put_back_counted (single it) classes counted g = either (same_grant g it) (counted g)
  where
    either : (b : Bool) → class_of classes.members g < max 1 classes.count
        → cond b classes.count (class_of classes.members g) < max 1 (suc classes.count)
    either true later = omega arith
    either false later = omega arith
put_back_counted (tied it partner) classes counted g = either (same_grant g it)
  where
    either : (b : Bool) → cond b (class_of classes.members partner) (class_of classes.members g) < max 1
        classes.count
    either true = counted partner
    either false = counted g

put_all_back_counted : (removed : List Removal) (classes : Classes) → Counted classes
    → Counted (put_all_back removed classes)
put_all_back_counted [] classes counted = counted
put_all_back_counted (removal ∷ earlier) classes counted =
    put_all_back_counted earlier (put_back removal classes) (put_back_counted removal classes counted)

-- a removal opens at most one class
put_back_opens : (removal : Removal) (classes : Classes) → (put_back removal classes).count ≤ suc classes.count
put_back_opens (single it) classes = omega arith
put_back_opens (tied it partner) classes = omega arith

put_all_back_opens : (removed : List Removal) (classes : Classes) → (put_all_back removed classes).count ≤
    classes.count + length removed
put_all_back_opens [] classes = omega arith
put_all_back_opens (removal ∷ earlier) classes =
    omega (arith, put_all_back_opens earlier (put_back removal classes), put_back_opens removal classes)

log_length : (removed partner : List ℕ) (count : ℕ) → length (log_of removed partner count) ≡ count
log_length removed partner zero = refl
log_length removed partner (suc n) = ap suc (log_length removed partner n)

-- a class of all grants is below as many as the kernel has classes and there are removals
pub class_below : (kernel placed removed partner : List ℕ) (limit : ℕ) → 0 < limit
    → used (latest_first placed (length kernel)) + length removed ≤ limit → (g : Grant)
    → class_of (classes_in kernel placed removed partner).members g < limit
unfolding classes_of
class_below kernel placed removed partner limit pos l g =
    let start = kernel_classes (listed kernel (length kernel)) (latest_first placed (length kernel)) in
    omega (
      arith,
      put_all_back_counted (log_of removed partner (length removed)) start
          (paired_counted (reverse (listed kernel (length kernel))) (latest_first placed (length kernel))) g,
      put_all_back_opens (log_of removed partner (length removed)) start,
      log_length removed partner (length removed),
    )

-- ---- all removals gone back over

-- the classes so far, from which the removals that are left lead to the whole
pub record GoingBack (class : List ℕ) (count : ℕ) (left : List Removal) (whole : Classes) : Type 0 where
  pub classes : Classes
  pub at : ClassesAt class count classes
  pub leads : put_all_back left classes ≡ whole

pub going_back_starts : {class : List ℕ} {count : ℕ} (kernel placed removed partner : List ℕ)
    → ClassAt class (paired_in kernel placed (length kernel)) → count ≡ used (latest_first placed (length kernel))
    → GoingBack class count (log_of removed partner (length removed)) (classes_in kernel placed removed partner)
unfolding classes_of
going_back_starts kernel placed removed partner each total =
    record {
      classes = kernel_classes (listed kernel (length kernel)) (latest_first placed (length kernel));
      at = record { each = each; total = total };
      leads = refl;
    }

pub going_back_on : {class next : List ℕ} {count more : ℕ} {whole : Classes} (removed partner : List ℕ) (left : ℕ)
    → 0 < left
    → ((classes : Classes) → ClassesAt class count classes
    → ClassesAt next more (put_back (removal_of (get_or removed (left - 1) 0) (get_or partner (left - 1) 0)) classes))
    → GoingBack class count (log_of removed partner left) whole
    → GoingBack next more (log_of removed partner (left - 1)) whole × (more ≤ count + 1)
going_back_on removed partner zero pos step so_far = absurd (omega arith)
going_back_on {class} {next} {count} {more} {whole} removed partner (suc n) pos step so_far = rw (sub-one (suc n))
    one_less
  where
    removal : Removal
    removal = removal_of (get_or removed n 0) (get_or partner n 0)

    at : ClassesAt next more (put_back removal so_far.classes)
    at = rw (sub-one (suc n)) at (step so_far.classes so_far.at)

    one_less : GoingBack next more (log_of removed partner n) whole × (more ≤ count + 1)
    one_less = (
      record { classes = put_back removal so_far.classes; at = at; leads = so_far.leads },
      omega (arith, at.total, so_far.at.total, put_back_opens removal so_far.classes),
    )

pub going_back_ends : {class : List ℕ} {count : ℕ} {whole : Classes} (removed partner : List ℕ) (left : ℕ) → left ≡ 0
    → GoingBack class count (log_of removed partner left) whole → ClassesAt class count whole
going_back_ends {class} {count} {whole} removed partner left e so_far =
    let none_left : GoingBack class count [] whole = rw e at so_far in
    rw none_left.leads at none_left.at
