-- What the number of the first cause that applies says, for a list of causes in the order in which they are judged.
-- Where all numbers are above 0 it is 0 exactly where no cause applies, and else none before that cause applies. Where
-- the numbers rise it is the lowest that applies: every later cause has a higher one. Assumes nothing.
use Rattle.std.specs.Prelude.{ℕ, ◌≤◌, ◌<◌, ◌≡◌, refl, ◌≢◌, Bool, true, false, ◌&&◌, ltb}
use Rattle.std.proofs.Common.{le_refl, le_of_lt, lt_trans, arith, ap, ⊎_elim, ltb-true, lt-ltb}
use Rattle.std.proofs.Math.Bool.{So}
use mathlib.Core.List.Memᴰ
use mathlib.Core.List.{List, [], ◌∷◌, ◌++◌, Memᴰ}
use Rattle.spec.specs.Text.{Bytes}
use Rattle.spec.specs.Refusal.{Cause, first_number, sheet_causes}
use Rattle.spec.specs.Demands.{FirstThatApplies, LowestThatApplies}
use Rattle.bits.specs.Truth.{not_both, and_left, and_right}

-- every number is above 0
abbrev pub positive : List Cause → Bool
positive [] = true
positive (cause ∷ later) = ltb 0 cause.number && positive later

-- the numbers rise from above low
abbrev pub rising : ℕ → List Cause → Bool
rising low [] = true
rising low (cause ∷ later) = ltb low cause.number && rising cause.number later

rising_here : (low : ℕ) (cause : Cause) (later : List Cause) → So (rising low (cause ∷ later)) → low < cause.number
rising_here low cause later r =
    ltb-true low cause.number (and_left (ltb low cause.number) (rising cause.number later) r)

rising_later : (low : ℕ) (cause : Cause) (later : List Cause) → So (rising low (cause ∷ later))
    → So (rising cause.number later)
rising_later low cause later r = and_right (ltb low cause.number) (rising cause.number later) r

-- rising numbers are above 0
pub rising_positive : (low : ℕ) (causes : List Cause) → So (rising low causes) → So (positive causes)
rising_positive low [] r = refl
rising_positive low (cause ∷ later) r =
    let above : 0 < cause.number = omega (arith, rising_here low cause later r) in
    rw (lt-ltb 0 cause.number above) (rising_positive cause.number later (rising_later low cause later r))

-- ---- the first

-- `first_number` is the number of the first cause that applies
pub first_that_applies : (causes : List Cause) → So (positive causes) → FirstThatApplies causes (first_number causes)
first_that_applies [] p =
    record { none_applies = λ z cause m. absurd (Memᴰ.not-nil m); first = λ n. absurd (n refl) }
first_that_applies (first ∷ later) p =
    choose first.applies refl
    (first_that_applies later (and_right (ltb 0 first.number) (positive later) p))
  where
    above : 0 < first.number
    above = ltb-true 0 first.number (and_left (ltb 0 first.number) (positive later) p)

    choose : (t : Bool) → first.applies ≡ t → FirstThatApplies later (first_number later)
        → FirstThatApplies (first ∷ later) (first_number (first ∷ later))
    choose true e deeper =
        record {
          none_applies = λ z. let zero : first.number ≡ 0 = rw e at z in absurd (omega (arith, above));
          first = λ n. ([], first, later, refl, λ other m. absurd (Memᴰ.not-nil m), e, rw e);
        }
    choose false e deeper =
        record {
          none_applies = λ z cause m.
              ⊎_elim (λ q. rw q e) (deeper.none_applies (rw e at z) cause) (Memᴰ.cases_cons m);
          first = λ n.
              let found = deeper.first (rw e at n) in (
                first ∷ found.0,
                found.1,
                found.2,
                ap (λ (l : List Cause). first ∷ l) found.3,
                λ other m. ⊎_elim (λ q. rw q e) (found.4 other) (Memᴰ.cases_cons m),
                found.5,
                rw e found.6,
              );
        }

-- no cause of the list applies
abbrev pub NoneApplies : List Cause → Type 0
NoneApplies [] = Unit {0}
NoneApplies (cause ∷ later) = (cause.applies ≡ false) × NoneApplies later

each_none_applies : (causes : List Cause) → ((cause : Cause) → Memᴰ cause causes → cause.applies ≡ false)
    → NoneApplies causes
each_none_applies [] each = tt
each_none_applies (first ∷ later) each =
    (each first (Memᴰ.head refl), each_none_applies later (λ cause m. each cause (Memᴰ.tail m)))

-- the number 0 says that no cause applies
pub zero_none_applies : (causes : List Cause) → So (positive causes) → first_number causes ≡ 0 → NoneApplies causes
zero_none_applies causes p z = each_none_applies causes ((first_that_applies causes p).none_applies z)

-- and back
pub none_applies_zero : (causes : List Cause) → NoneApplies causes → first_number causes ≡ 0
none_applies_zero [] n = refl
none_applies_zero (first ∷ later) n = rw n.0 (none_applies_zero later n.1)

-- ---- the lowest

-- every number is above low
rising_member : (low : ℕ) (causes : List Cause) → So (rising low causes) → (cause : Cause) → Memᴰ cause causes
    → low < cause.number
rising_member low [] r cause m = absurd (Memᴰ.not-nil m)
rising_member low (first ∷ later) r cause m =
    ⊎_elim (λ e. rw e (rising_here low first later r))
    (λ n. lt_trans (rising_here low first later r)
    (rising_member first.number later (rising_later low first later r) cause n))
    (Memᴰ.cases_cons m)

-- a cause that stands after another has a higher number
rising_after : (low : ℕ) (passed : List Cause) (first : Cause) (later : List Cause)
    → So (rising low (passed ++ first ∷ later)) → (cause : Cause) → Memᴰ cause later
    → first.number < cause.number
rising_after low [] first later r cause m =
    rising_member first.number later (rising_later low first later r) cause m
rising_after low (other ∷ passed) first later r cause m =
    rising_after other.number passed first later (rising_later low other (passed ++ first ∷ later) r) cause m

-- where none applies that stands before it, no cause that applies has a lower number
none_below : (low : ℕ) (passed : List Cause) (first : Cause) (later : List Cause)
    → So (rising low (passed ++ first ∷ later)) → ((other : Cause) → Memᴰ other passed → other.applies ≡ false)
    → (cause : Cause) → Memᴰ cause (passed ++ first ∷ later) → So cause.applies → first.number ≤ cause.number
none_below low passed first later r before cause m p =
    ⊎_elim (λ n. absurd (not_both p (before cause n)))
    (λ n. ⊎_elim (λ q. rw q (le_refl first.number)) (λ k. le_of_lt (rising_after low passed first later r cause k))
    (Memᴰ.cases_cons n))
    (Memᴰ.append_cases passed m)

-- where the numbers rise, the first that applies is the lowest
pub first_is_lowest : (causes : List Cause) (number : ℕ) → So (rising 0 causes) → FirstThatApplies causes number
    → LowestThatApplies causes number
first_is_lowest causes number r f =
    record {
      none_lower = λ cause m p.
          let n : number ≢ 0 = λ z. not_both p (f.none_applies z cause m) in
          let found = f.first n in (
            n,
            rw found.6 at (none_below 0 found.0 found.1 found.2 (rw found.3 at r) found.4 cause
                (rw found.3 at m) p),
          );
      applies = λ n.
          let found = f.first n in
          let stands : Memᴰ found.1 (found.0 ++ found.1 ∷ found.2) =
          Memᴰ.append_right found.0 (Memᴰ.head refl) in
          (found.1, rw (← found.3) at stands, found.5, found.6);
    }

-- a cause that does not apply changes nothing: the lowest without it is the lowest with it
pub lowest_with : (passed : List Cause) (cause : Cause) (later : List Cause) (number : ℕ) → cause.applies ≡ false
    → LowestThatApplies (passed ++ later) number → LowestThatApplies (passed ++ cause ∷ later) number
lowest_with passed cause later number e lowest =
    record {
      none_lower = λ other m p.
          lowest.none_lower other
          (⊎_elim (λ n. Memᴰ.append_left later n)
          (λ n. ⊎_elim (λ q. absurd (not_both (rw q at p) e)) (λ k. Memᴰ.append_right passed k)
          (Memᴰ.cases_cons n))
          (Memᴰ.append_cases passed m))
          p;
      applies = λ n.
          let found = lowest.applies n in (
            found.0,
            ⊎_elim (λ k. Memᴰ.append_left (cause ∷ later) k)
                (λ k. Memᴰ.append_right passed (Memᴰ.tail k)) (Memᴰ.append_cases passed found.1),
            found.2,
            found.3,
          );
    }

-- ---- the causes of a sheet

-- they stand in rising order
pub sheet_causes_rise : (text : Bytes) → So (rising 0 (sheet_causes text))
unfolding sheet_causes
sheet_causes_rise text = refl

pub sheet_causes_positive : (text : Bytes) → So (positive (sheet_causes text))
sheet_causes_positive text = rising_positive 0 (sheet_causes text) (sheet_causes_rise text)
