-- The checker's number is 0 exactly where no cause of the sheet and no cause of the book applies; and no cause of a
-- book applies exactly where its tests all pass.
use Rattle.std.specs.Prelude.{ℕ, ◌≤◌, ◌≡◌, refl, Bool, true, false, not, cond, List, [], ◌∷◌, ◌++◌, eqb, ltb, length}
use Rattle.std.proofs.Common.{sym, ap, ◌∙◌, eqb-true, eq-eqb, ltb-false, le-ltb}
use Rattle.std.proofs.Math.Bool.{So}
use Rattle.std.proofs.lemmas.Bool.{not-false}
use Rattle.spec.specs.Limits.{book_limit}
use Rattle.spec.specs.Text.{Bytes}
use Rattle.spec.specs.Sheet.{Sheet, sheet_of}
use Rattle.spec.specs.Book.{Said}
use Rattle.spec.specs.Form.{form, said}
use Rattle.spec.specs.Refusal.{Cause, first_number, sheet_causes, refusal, counts_agree, product_agrees}
use Rattle.spec.specs.Refusal.{witness_agrees, book_causes, check_causes}
use Rattle.spec.specs.Calls.{CheckAnswer, check_refused, check_counts, check}
use Rattle.bits.specs.Truth.{or_fails, or_fails_left, or_fails_right}
use Rattle.rules.specs.CauseLaws.{positive, rising, rising_positive, NoneApplies, zero_none_applies}
use Rattle.rules.specs.CauseLaws.{none_applies_zero, sheet_causes_positive}

-- all tests of a book pass
pub record Passes (sheet : Sheet) (text : Bytes) : Type 0 where
  pub short : length text ≤ book_limit
  pub has_form : So (form sheet text)
  pub counts : So (counts_agree (said sheet text))
  pub product : So (product_agrees sheet (said sheet text).roles)
  pub witness : So (witness_agrees sheet (said sheet text).witness)

pub passes_none_applies : (sheet : Sheet) (text : Bytes) → Passes sheet text → NoneApplies (book_causes sheet text)
unfolding book_causes
passes_none_applies sheet text p = (
  or_fails (ltb book_limit (length text)) (not (form sheet text)) (le-ltb book_limit (length text) p.short)
      (ap not p.has_form),
  (ap not p.counts, (ap not p.product, (ap not p.witness, tt))),
)

pub none_applies_passes : (sheet : Sheet) (text : Bytes) → NoneApplies (book_causes sheet text) → Passes sheet text
unfolding book_causes
none_applies_passes sheet text n =
    record {
      short = ltb-false book_limit (length text) (or_fails_left (ltb book_limit (length text)) (not (form sheet text))
          n.0);
      has_form = not-false (form sheet text) (or_fails_right (ltb book_limit (length text)) (not (form sheet text))
          n.0);
      counts = not-false (counts_agree (said sheet text)) n.1.0;
      product = not-false (product_agrees sheet (said sheet text).roles) n.1.1.0;
      witness = not-false (witness_agrees sheet (said sheet text).witness) n.1.1.1.0;
    }

-- ---- two lists of causes

pub none_applies_left : (a b : List Cause) → NoneApplies (a ++ b) → NoneApplies a
none_applies_left [] b n = tt
none_applies_left (cause ∷ a) b n = (n.0, none_applies_left a b n.1)

pub none_applies_right : (a b : List Cause) → NoneApplies (a ++ b) → NoneApplies b
none_applies_right [] b n = n
none_applies_right (cause ∷ a) b n = none_applies_right a b n.1

pub none_applies_both : (a b : List Cause) → NoneApplies a → NoneApplies b → NoneApplies (a ++ b)
none_applies_both [] b n m = m
none_applies_both (cause ∷ a) b n m = (n.0, none_applies_both a b n.1 m)

-- ---- the number

pub check_causes_rise : (text book : Bytes) → So (rising 0 (check_causes text book))
unfolding check_causes sheet_causes book_causes
check_causes_rise text book = refl

pub check_causes_positive : (text book : Bytes) → So (positive (check_causes text book))
check_causes_positive text book = rising_positive 0 (check_causes text book) (check_causes_rise text book)

-- the answer of a number: the counts, where it is 0, else the number alone
answered : ℕ → Said → CheckAnswer
answered number book = cond (eqb number 0) (check_counts book) (check_refused number)

answered_number : (number : ℕ) (book : Said) → (answered number book).number ≡ number
unfolding answered
answered_number number book = choose (eqb number 0) refl
  where
    choose : (t : Bool) → eqb number 0 ≡ t → (cond t (check_counts book) (check_refused number)).number ≡ number
    choose true e = sym (eqb-true number 0 e)
    choose false e = refl

-- the checker answers the number of the first cause that applies
pub check_number : (text book : Bytes) → (check text book).number ≡ first_number (check_causes text book)
unfolding check answered
check_number text book = answered_number (first_number (check_causes text book)) (said (sheet_of text) book)

-- with no number above 0 the counts that were read are returned
pub check_confirms : (text book : Bytes) → (check text book).number ≡ 0 → check text book ≡ check_counts
    (said (sheet_of text) book)
unfolding check
check_confirms text book e = rw (eq-eqb (first_number (check_causes text book)) 0 (sym (check_number text book) ∙ e))

-- what an answer of 0 says
pub record Unrefused (text book : Bytes) : Type 0 where
  pub sheet_stands : refusal text ≡ 0
  pub book_passes : Passes (sheet_of text) book

pub zero_unrefused : (text book : Bytes) → (check text book).number ≡ 0 → Unrefused text book
unfolding check_causes refusal
zero_unrefused text book e =
    let none = zero_none_applies (check_causes text book) (check_causes_positive text book)
    (sym (check_number text book) ∙ e) in
    record {
      sheet_stands = none_applies_zero (sheet_causes text) (none_applies_left (sheet_causes text)
          (book_causes (sheet_of text) book) none);
      book_passes = none_applies_passes (sheet_of text) book (none_applies_right (sheet_causes text)
          (book_causes (sheet_of text) book) none);
    }

pub unrefused_zero : (text book : Bytes) → Unrefused text book → (check text book).number ≡ 0
unfolding check_causes refusal
unrefused_zero text book u =
    check_number text book
    ∙ none_applies_zero (check_causes text book)
    (none_applies_both (sheet_causes text) (book_causes (sheet_of text) book)
    (zero_none_applies (sheet_causes text) (sheet_causes_positive text) u.sheet_stands)
    (passes_none_applies (sheet_of text) book u.book_passes))
