-- What a placement says of its numbers. Class numbers are read off by `class_in`; a number may join a class if it
-- goes together with every member read off so; a placement is valid exactly when any two numbers of one class go
-- together; and in a grown placement every class has a member. Each law is an induction on the placement: a number in
-- it is the latest or is in the earlier part. Assumes nothing.
use Rattle.std.specs.Prelude.{ℕ, suc, ◌≤◌, ◌<◌, ◌≡◌, refl, Bool, ◌||◌, not, List, [], ◌∷◌, ◌++◌, eqb, length}
use Rattle.std.proofs.Common.{sym, ◌∙◌, ⊎_elim, le_trans, lt-suc_self, lt_trans, not-suc-le-zero, arith, eqb-true, eq-eqb, ne_eqb, length-append}
use Rattle.std.proofs.Math.Bool.{So}
use Rattle.std.proofs.Math.Nat.{le_step, le-max_left, le-max_right}
use Rattle.std.proofs.lemmas.Bool.{eqb-false}
use Rattle.spec.specs.Cover.{used, joins}
use Rattle.bits.specs.Truth.{passes_or_fails, and_intro, and_left, and_right, implies_intro, implies_elim}
use Rattle.bits.specs.Laws.Below.{last_or_below}
use Rattle.lists.specs.Classing.{class_in, Valid, Grown}

-- ---- the class of a number

pub class_in_latest : (a : ℕ) (earlier : List ℕ) {i : ℕ} → i ≡ length earlier → class_in (a ∷ earlier) i ≡ a
class_in_latest a earlier {i} e = rw (eq-eqb i (length earlier) e)

pub class_in_earlier : (a : ℕ) (earlier : List ℕ) {i : ℕ} → i < length earlier → class_in (a ∷ earlier) i ≡ class_in
    earlier i
class_in_earlier a earlier {i} l = rw (ne_eqb i (length earlier) (omega arith))

-- a longer placement agrees on the earlier numbers
pub class_in_part : (later earlier : List ℕ) {i : ℕ} → i < length earlier → class_in (later ++ earlier) i ≡ class_in
    earlier i
class_in_part [] earlier l = refl
class_in_part (a ∷ later) earlier l =
    class_in_earlier a (later ++ earlier) (omega (arith, length-append later earlier)) ∙ class_in_part later earlier l

-- ---- the number of classes

pub earlier_uses_fewer : (a : ℕ) (earlier : List ℕ) → used earlier ≤ used (a ∷ earlier)
earlier_uses_fewer a earlier = le-max_right (suc a) (used earlier)

pub latest_below_used : (a : ℕ) (earlier : List ℕ) → a < used (a ∷ earlier)
latest_below_used a earlier = le-max_left (suc a) (used earlier)

pub class_below_used : (placed : List ℕ) {i : ℕ} → i < length placed → class_in placed i < used placed
class_below_used [] l = absurd (not-suc-le-zero l)
class_below_used (a ∷ earlier) {i} l =
    ⊎_elim (λ e. rw (class_in_latest a earlier e) (latest_below_used a earlier))
    (λ (k : i < length earlier). rw (class_in_earlier a earlier k) (le_trans (class_below_used earlier k)
    (earlier_uses_fewer a earlier)))
    (last_or_below l)

-- ---- joining a class

pub joins_intro : (together : ℕ → ℕ → Bool) (d : ℕ) (earlier : List ℕ) (c : ℕ)
    → ((i : ℕ) → i < length earlier → class_in earlier i ≡ c → So (together d i)) → So (joins together d earlier c)
joins_intro together d [] c h = refl
joins_intro together d (a ∷ earlier) c h =
    and_intro (not (eqb a c) || together d (length earlier)) (joins together d earlier c)
    (implies_intro (eqb a c) (together d (length earlier))
    (λ e. h (length earlier) (lt-suc_self (length earlier)) (class_in_latest a earlier refl ∙ eqb-true a c e)))
    (joins_intro together d earlier c (λ i l e. h i (le_step l) (class_in_earlier a earlier l ∙ e)))

pub joins_elim : (together : ℕ → ℕ → Bool) (d : ℕ) (earlier : List ℕ) (c : ℕ) → So (joins together d earlier c)
    → {i : ℕ} → i < length earlier → class_in earlier i ≡ c → So (together d i)
joins_elim together d [] c j l e = absurd (not-suc-le-zero l)
joins_elim together d (a ∷ earlier) c j {i} l e =
    ⊎_elim
    (λ s. rw s (implies_elim (eqb a c) (together d (length earlier))
    (and_left (not (eqb a c) || together d (length earlier)) (joins together d earlier c) j)
    (eq-eqb a c (sym (class_in_latest a earlier s) ∙ e))))
    (λ k. joins_elim together d earlier c
    (and_right (not (eqb a c) || together d (length earlier)) (joins together d earlier c) j) k
    (sym (class_in_earlier a earlier k) ∙ e))
    (last_or_below l)

-- ---- valid placements

-- any two numbers of one class go together
pub valid_elim : (together : ℕ → ℕ → Bool) (placed : List ℕ) → Valid together placed
    → (i j : ℕ) → j < i → i < length placed → class_in placed i ≡ class_in placed j → So (together i j)
valid_elim together [] v i j k l e = absurd (not-suc-le-zero l)
valid_elim together (a ∷ earlier) v i j k l e =
    ⊎_elim
    (λ (s : i ≡ length earlier). rw s (joins_elim together (length earlier) earlier a v.0 (rw s at k)
    (sym (class_in_earlier a earlier (rw s at k)) ∙ sym e ∙ class_in_latest a earlier s)))
    (λ (m : i < length earlier). valid_elim together earlier v.1 i j k m
    (sym (class_in_earlier a earlier m) ∙ e ∙ class_in_earlier a earlier (lt_trans k m)))
    (last_or_below l)

pub valid_intro : (together : ℕ → ℕ → Bool) (placed : List ℕ)
    → ((i j : ℕ) → j < i → i < length placed → class_in placed i ≡ class_in placed j → So (together i j))
    → Valid together placed
valid_intro together [] h = tt
valid_intro together (a ∷ earlier) h = (
  joins_intro together (length earlier) earlier a (λ j l e. h (length earlier) j l (lt-suc_self (length earlier))
      (class_in_latest a earlier refl ∙ sym e ∙ sym (class_in_earlier a earlier l))),
  valid_intro together earlier (λ i j k l e. h i j k (le_step l)
      (class_in_earlier a earlier l ∙ e ∙ sym (class_in_earlier a earlier (lt_trans k l)))),
)

-- what goes together under one test does so under another
pub valid_mono : (together also : ℕ → ℕ → Bool) (placed : List ℕ)
    → ((i j : ℕ) → j < i → i < length placed → So (together i j) → So (also i j)) → Valid together placed
    → Valid also placed
valid_mono together also placed h v =
    valid_intro also placed (λ i j k l e. h i j k l (valid_elim together placed v i j k l e))

-- ---- grown placements

-- a number whose class is c
pub record Member (placed : List ℕ) (c : ℕ) : Type 0 where
  pub number : ℕ
  pub within : number < length placed
  pub classed : class_in placed number ≡ c

-- every class below `used` has a member
pub grown_member : (placed : List ℕ) → Grown placed → {c : ℕ} → c < used placed → Member placed c
grown_member [] g l = absurd (not-suc-le-zero l)
grown_member (a ∷ earlier) g {c} l =
    ⊎_elim
    (λ e. record {
      number = length earlier;
      within = lt-suc_self (length earlier);
      classed = class_in_latest a earlier
          refl ∙ eqb-true a c e;
    })
    (λ e. kept (grown_member earlier g.1 (omega (arith, g.0, eqb-false a c e))))
    (passes_or_fails (eqb a c))
  where
    kept : Member earlier c → Member (a ∷ earlier) c
    kept m = record {
      number = m.number;
      within = le_step m.within;
      classed = class_in_earlier a earlier m.within ∙ m.classed;
    }
