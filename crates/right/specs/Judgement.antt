-- The checker's answer, from the answer's own side. A sheet that is refused gives its number. For any other sheet a
-- book that is not written for anything that can be said gives 12, and a book that is written for something is judged
-- by what it says.
use Rattle.std.specs.Prelude.{ℕ, ◌≤◌, ◌<◌, ◌≡◌, refl, Bool, true, false, ◌||◌, not, cond, List, [], ◌∷◌, ◌++◌, eqb, ltb}
use Rattle.std.specs.Prelude.{length}
use Rattle.std.proofs.Common.{ap, ◌∙◌}
use Rattle.std.proofs.Math.Bool.{So}
use Rattle.std.specs.Bool.{beq}
use borrow.Author.Tests.{eq-eqb, ne_eqb, lt-ltb, le-ltb}
use Rattle.spec.specs.Vocabulary.{every_below}
use Rattle.spec.specs.Limits.{book_limit}
use Rattle.spec.specs.Text.{Bytes}
use Rattle.spec.specs.Sheet.{Sheet, sheet_of, user_count, permission_count, holds}
use Rattle.spec.specs.RoleSet.{product}
use Rattle.spec.specs.Book.{Said, text_of_blocks, Spelling, sheet_spelling, blocks_spelled}
use Rattle.spec.specs.Form.{form, said}
use Rattle.spec.specs.Right.{SameNames}
use Rattle.spec.specs.Refusal.{Cause, refuse_if, first_number, sheet_causes, refusal, counts_agree, product_agrees}
use Rattle.spec.specs.Refusal.{witness_agrees, book_causes, check_causes}
use Rattle.spec.specs.Calls.{CheckAnswer, check_refused, check_counts, check}
use Rattle.bits.specs.Truth.{fails_unless, or_left, or_right, not_passes}
use Rattle.bits.specs.Laws.Below.{every_below_ext}
use Rattle.rules.specs.CauseLaws.{NoneApplies, zero_none_applies, sheet_causes_positive}
use Rattle.rules.specs.Accepted.{accepted_keeps}
use Rattle.right.specs.NameLaws.{GoodSheet}
use Rattle.right.specs.WrittenLines.{Sayable}
use Rattle.right.specs.ReadBack.{SaysSame, written_has_form, read_back}
use Rattle.right.specs.ReadForm.{spelling_read, form_is_written, form_is_spelled, form_is_sayable}
use Rattle.right.specs.Exact.{counts_agree_same, product_same, keeps_good}

-- the number for what a book says
abbrev pub judged_number : Sheet → Said → ℕ
judged_number sheet says =
    refuse_if (not (counts_agree says)) 13
    (refuse_if (not (product_agrees sheet says.roles)) 14 (refuse_if (not (witness_agrees sheet says.witness))
    15 0))

-- the answer of a number: the counts, where it is 0, else the number alone
abbrev pub answered : ℕ → Said → CheckAnswer
answered number says = cond (eqb number 0) (check_counts says) (check_refused number)

-- ---- the sheet first

pub first_of_both : (a b : List Cause) → (first_number a ≡ 0 → ⊥) → first_number (a ++ b) ≡ first_number a
first_of_both [] b h = absurd (h refl)
first_of_both (cause ∷ a) b h = choose (first_of_both a b) cause.applies h
  where
    choose : ((first_number a ≡ 0 → ⊥) → first_number (a ++ b) ≡ first_number a) → (t : Bool)
        → (refuse_if t cause.number (first_number a) ≡ 0 → ⊥)
        → refuse_if t cause.number (first_number (a ++ b)) ≡ refuse_if t cause.number (first_number a)
    choose later true h = refl
    choose later false h = later h

pub second_of_both : (a b : List Cause) → NoneApplies a → first_number (a ++ b) ≡ first_number b
second_of_both [] b n = refl
second_of_both (cause ∷ a) b n = rw n.0 (second_of_both a b n.1)

pub refused_by_sheet : (text book : Bytes) → (refusal text ≡ 0 → ⊥) → check text book ≡ check_refused (refusal text)
unfolding check check_causes refusal
refused_by_sheet text book h =
    rw (
      first_of_both (sheet_causes text) (book_causes (sheet_of text) book) h,
      ne_eqb (first_number (sheet_causes text)) 0 h,
    )

-- past the sheet the book decides
pub judged_by_book : (text book : Bytes) → refusal text ≡ 0
    → check text book ≡ answered (first_number (book_causes (sheet_of text) book)) (said (sheet_of text) book)
unfolding check check_causes refusal
judged_by_book text book e =
    rw (second_of_both (sheet_causes text) (book_causes (sheet_of text) book) (zero_none_applies (sheet_causes text)
    (sheet_causes_positive text) e))

-- ---- 12

refused_twelve : (text book : Bytes) → refusal text ≡ 0 → So (ltb book_limit (length book)
    || not (form (sheet_of text) book))
    → check text book ≡ check_refused 12
unfolding book_causes
refused_twelve text book e t = judged_by_book text book e ∙ rw t

pub too_long_book : (text book : Bytes) → refusal text ≡ 0 → book_limit < length book
    → check text book ≡ check_refused 12
too_long_book text book e h =
    refused_twelve text book e
    (or_left (ltb book_limit (length book)) (not (form (sheet_of text) book)) (lt-ltb book_limit (length book) h))

-- nothing that can be said is written as this book, in whatever case names are spelled
pub record Unwritten (sheet : Sheet) (book : Bytes) : Type 0 where
  pub none : (says : Said) → Sayable sheet says → (spelling : Spelling)
      → SameNames spelling (sheet_spelling sheet says)
      → book ≡ text_of_blocks (blocks_spelled spelling says) → ⊥

pub unwritten_book : (text book : Bytes) → refusal text ≡ 0 → Unwritten (sheet_of text) book
    → check text book ≡ check_refused 12
unwritten_book text book e u =
    refused_twelve text book e
    (or_right (ltb book_limit (length book)) (not (form (sheet_of text) book))
    (not_passes (form (sheet_of text) book)
    (fails_unless (form (sheet_of text) book) (λ f.
    u.none (said (sheet_of text) book) (form_is_sayable (sheet_of text) book f) (spelling_read book)
    (form_is_spelled (sheet_of text) book f) (form_is_written (sheet_of text) book f)))))

-- ---- what is written

-- this is said, and is written as this book, in whatever case names are spelled
pub record WrittenAs (sheet : Sheet) (book : Bytes) (says : Said) : Type 0 where
  pub spelling : Spelling
  pub same_names : SameNames spelling (sheet_spelling sheet says)
  pub written : book ≡ text_of_blocks (blocks_spelled spelling says)
  pub sayable : Sayable sheet says
  pub short : length book ≤ book_limit

product_agrees_same : (sheet : Sheet) (read written : Said) → SaysSame sheet read written
    → product_agrees sheet read.roles ≡ product_agrees sheet written.roles
unfolding product_agrees
product_agrees_same sheet read written s =
    every_below_ext (user_count sheet) (λ u. every_below (permission_count sheet)
    (λ p. beq (product read.roles u p) (holds sheet u p)))
    (λ u. every_below (permission_count sheet) (λ p. beq (product written.roles u p) (holds sheet u p))) (λ u h.
    every_below_ext (permission_count sheet) (λ p. beq (product read.roles u p) (holds sheet u p))
    (λ p. beq (product written.roles u p) (holds sheet u p)) (λ p k.
    ap (λ (b : Bool). beq b (holds sheet u p)) (product_same sheet read written s u p h k)))

module _ (sheet : Sheet) (good : GoodSheet sheet) (book : Bytes) (says : Said) (w : WrittenAs sheet book says) where
  -- what the book is read as is what is said
  pub reads_same : SaysSame sheet (said sheet book) says
  reads_same = rw w.written (read_back sheet good says w.sayable w.spelling w.same_names)

  has_form : So (form sheet book)
  has_form = rw w.written (written_has_form sheet good says w.sayable w.spelling w.same_names)

  written_number : first_number (book_causes sheet book) ≡ judged_number sheet says
  unfolding book_causes
  written_number =
      rw (
        le-ltb book_limit (length book) w.short,
        has_form,
        counts_agree_same sheet (said sheet book) says reads_same,
        product_agrees_same sheet (said sheet book) says reads_same,
        reads_same.witness,
      )

pub written_book : (text book : Bytes) (says : Said) → refusal text ≡ 0 → WrittenAs (sheet_of text) book says
    → check text book ≡ answered (judged_number (sheet_of text) says) says
written_book text book says e w =
    let good = keeps_good (accepted_keeps text (eq-eqb (refusal text) 0 e)) in
    let same = reads_same (sheet_of text) good book says w in
    judged_by_book text book e ∙ rw (written_number (sheet_of text) good book says w, same.roles, same.witness)
