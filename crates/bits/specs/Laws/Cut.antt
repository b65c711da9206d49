-- What is looked for below a bound, when everything from a lesser bound on fails, is what is looked for below that
-- one; and what some number below a bound passes, one number apart from the others.
use Rattle.std.specs.Prelude.{ℕ, ◌≤◌, ◌<◌, ◌≡◌, Bool, false, not, ◌&&◌, ◌||◌, eqb}
use Rattle.std.proofs.Common.{sym, ◌∙◌, ⊎_elim, lt_of_lt_of_le, lt_trans, arith, eqb-true}
use Rattle.std.proofs.Math.Bool.{So}
use Rattle.std.proofs.Math.Option.{Option, none, some, get_or}
use Rattle.spec.specs.Vocabulary.{lowest_below}
use Rattle.bits.specs.Truth.{passes_or_fails, not_both, same_truth, and_intro, and_left, and_right, or_left}
use Rattle.bits.specs.Truth.{or_right, or_cases, not_passes}
use Rattle.bits.specs.Counting.{some_below, Lowest}
use Rattle.bits.specs.Laws.Below.{below_or_from, some_below_intro, some_below_elim}
use Rattle.bits.specs.Laws.Lowest.{lowest_below_intro, lowest_below_none_intro, lowest_below_cases}

module _ (m n : ℕ) (f g : ℕ → Bool) (less : n ≤ m) (same : (i : ℕ) → i < n → f i ≡ g i) where
  lowest_widened : {i : ℕ} → Lowest n g i → Lowest m f i
  lowest_widened {i} w =
      record {
        within = lt_of_lt_of_le w.within less;
        holds = same i w.within ∙ w.holds;
        first = λ j l. same j (lt_trans l w.within) ∙ w.first j l;
      }

  pub some_below_cut : ((i : ℕ) → n ≤ i → f i ≡ false) → some_below m f ≡ some_below n g
  some_below_cut later = same_truth (some_below m f) (some_below n g) forth back
    where
      forth : So (some_below m f) → So (some_below n g)
      forth e =
          let r = some_below_elim m f e in
          ⊎_elim (λ l. some_below_intro n g l (sym (same r.place l) ∙ r.holds))
          (λ l. absurd (not_both r.holds (later r.place l)))
          (below_or_from r.place n)

      back : So (some_below n g) → So (some_below m f)
      back e =
          let r = some_below_elim n g e in
          some_below_intro m f (lt_of_lt_of_le r.within less) (same r.place r.within ∙ r.holds)

  pub lowest_below_cut : ((i : ℕ) → n ≤ i → i < m → f i ≡ false) → lowest_below m f ≡ lowest_below n g
  lowest_below_cut later =
      ⊎_elim (λ w. lowest_below_intro m f (lowest_widened w.1) ∙ sym (lowest_below_intro n g w.1))
      (λ h.
      lowest_below_none_intro m f (λ i l. ⊎_elim (λ k. same i k ∙ h i k) (λ k. later i k l) (below_or_from i n))
      ∙ sym (lowest_below_none_intro n g h))
      (lowest_below_cases n g)

-- the number found below a bound, or the bound: below it, it was found
pub get_d_found : (o : Option ℕ) (n : ℕ) {r : ℕ} → r ≡ get_or o n → r < n → o ≡ some r
get_d_found none n e l = absurd (omega arith)
get_d_found (some i) n e l = cc

-- and the bound is got only where none was found
pub getD_missing : (n : ℕ) (f : ℕ → Bool) {r : ℕ} → r ≡ get_or (lowest_below n f) n → n ≤ r
    → lowest_below n f ≡ none
getD_missing n f {r} e l =
    ⊎_elim
    (λ w.
    let found : r ≡ w.0 = rw (lowest_below_intro n f w.1) at e in
    let within : w.0 < n = w.1.within in
    absurd (omega arith))
    (λ h. lowest_below_none_intro n f h) (lowest_below_cases n f)

-- one number that passes g, and the others
pub some_below_apart : (n : ℕ) (g h : ℕ → Bool) {i : ℕ} → i < n → So (g i)
    → some_below n (λ q. g q && h q) ≡ (h i || some_below n (λ q. g q && not (eqb q i) && h q))
some_below_apart n g h {i} l p =
    same_truth (some_below n (λ q. g q && h q)) (h i || some_below n (λ q. g q && not (eqb q i) && h q)) forth back
  where
    forth : So (some_below n (λ q. g q && h q)) → So (h i || some_below n (λ q. g q && not (eqb q i) && h q))
    forth e =
        let r = some_below_elim n (λ q. g q && h q) e in
        let q = r.place in
        let gq = and_left (g q) (h q) r.holds in
        let hq = and_right (g q) (h q) r.holds in
        ⊎_elim (λ s. or_left (h i) (some_below n (λ q. g q && not (eqb q i) && h q)) (rw (eqb-true q i s) at hq))
        (λ s. or_right (h i) (some_below n (λ q. g q && not (eqb q i) && h q))
        (some_below_intro n (λ q. g q && not (eqb q i) && h q) r.within
        (and_intro (g q && not (eqb q i)) (h q) (and_intro (g q) (not (eqb q i)) gq (not_passes (eqb q i) s)) hq)))
        (passes_or_fails (eqb q i))

    back : So (h i || some_below n (λ q. g q && not (eqb q i) && h q)) → So (some_below n (λ q. g q && h q))
    back e =
        ⊎_elim (λ s. some_below_intro n (λ q. g q && h q) l (and_intro (g i) (h i) p s))
        (λ s.
        let r = some_below_elim n (λ q. g q && not (eqb q i) && h q) s in
        let q = r.place in
        some_below_intro n (λ q. g q && h q) r.within
        (and_intro (g q) (h q) (and_left (g q) (not (eqb q i)) (and_left (g q && not (eqb q i)) (h q) r.holds))
        (and_right (g q && not (eqb q i)) (h q) r.holds)))
        (or_cases (h i) (some_below n (λ q. g q && not (eqb q i) && h q)) e)
