-- What the code has read of a book and what the book says. The counts are read up to a bound, the matrices are rows
-- of words and the witness has the grants of its first lines; where the counts agree, that is all of them. So each of
-- the three judgements by what was read is that by what is said.
use Rattle.std.specs.Prelude.{ℕ, ◌*◌, ◌≤◌, ◌<◌, ◌≡◌, false, ◌&&◌, List, eqb, length, Result, Ok, Err}
use Rattle.std.proofs.Common.{arith, ap}
use Rattle.std.proofs.Math.Bool.{So}
use Rattle.spec.specs.Vocabulary.{every_below}
use Rattle.spec.specs.Limits.{role_limit}
use Rattle.spec.specs.Sheet.{Sheet, user_count, permission_count}
use Rattle.spec.specs.RoleSet.{RoleSet}
use Rattle.spec.specs.Roles.{Standing, witnessed, searched, unsettled}
use Rattle.spec.specs.Book.{Said}
use Rattle.spec.specs.Right.{BoundAgrees}
use Rattle.spec.specs.Refusal.{bound_agrees, counts_agree, product_agrees, witness_agrees}
use Rattle.spec.specs.Calls.{CheckAnswer, check_refused, check_counts}
use Rattle.lists.specs.EachLaws.{Each}
use Rattle.numbers.specs.Refusal.{number_of}
use Rattle.numbers.specs.declared.refusal.Refusal.{Refusal}
use Rattle.cell_rows.specs.Rows.{row_words, row_bits, cell, RowsOf}
use Rattle.rules.specs.AcceptedFacts.{Lawful}
use Rattle.product.specs.RowAfter.{roles_in}
use Rattle.product.specs.RowAgrees.{row_agrees}
use Rattle.product.specs.Laws.WordsAgree.{rows_are_sheet}
use Rattle.standing.specs.StandingCases.{standing_case}
use Rattle.right.specs.CheckParts.{counts_agree_elim}
use Rattle.book_lines.specs.declared.counts.Counts.{Counts}
use Rattle.read_fields.specs.declared.witness_block.Witness.{Witness}
use Rattle.judging.specs.declared.judgement.Checked.{Checked}
use Rattle.digits.specs.Capped.{count_cap, capped, capped_test}
use Rattle.read_fields.specs.WitnessList.{Collects}
use Rattle.read_fields.specs.WitnessLineSteps.{Known}
use Rattle.judging.specs.WitnessWords.{LinesWithin, lines_within, lines_stand, stands_by_words}
use Rattle.right.specs.Judgement.{judged_number, answered}

-- the answer that the code gives, as the definitions have it
abbrev pub answer_of : Checked → CheckAnswer
answer_of c = record { number = c.number; roles = c.roles; witness_lines = c.witness_lines }

-- the answer for a book of so many roles and witness lines, by whether it was refused
abbrev pub answer_as : {T : Type 0} → ℕ → ℕ → Result T Refusal → CheckAnswer
answer_as roles lines (Ok value) = record { number = 0; roles = roles; witness_lines = lines }
answer_as roles lines (Err cause) = check_refused (number_of cause)

-- this is said
pub record Says (sheet : Sheet) (counts : Counts) (roles : ℕ) (has gives : List ℕ) (w : Witness) (says : Said) : Type
    0 where
  pub role_number : counts.roles ≡ capped says.count
  pub bound_number : counts.bound ≡ capped says.bound
  pub standing : standing_case counts.standing ≡ says.standing
  pub matrices : says.roles ≡ roles_in has gives roles
  pub few : roles ≤ role_limit
  pub beyond : (r p : ℕ) → r < roles → permission_count sheet ≤ p → p < row_bits → cell gives r p ≡ false
  pub collects : Collects w says.witness
  pub known : Each (Known sheet) says.witness
  pub few_lines : length says.witness < count_cap

-- something is said
pub record BookSays (sheet : Sheet) (counts : Counts) (roles : ℕ) (has gives : List ℕ) (w : Witness) : Type 0 where
  pub says : Said
  pub said : Says sheet counts roles has gives w says

-- the answer is the judgement of whatever is said
pub record JudgedAs (sheet : Sheet) (counts : Counts) (roles : ℕ) (has gives : List ℕ) (w : Witness)
    (answer : CheckAnswer) : Type 0 where
  pub judged : (says : Said) → Says sheet counts roles has gives w says → answer ≡ answered (judged_number sheet says)
      says

-- ---- the counts

roles_below_cap : (roles : ℕ) → roles ≤ role_limit → roles < count_cap
unfolding count_cap role_limit
roles_below_cap roles h = omega arith

bound_capped : (s : Standing) (n roles lines : ℕ) → roles < count_cap → lines < count_cap
    → bound_agrees s (capped n) roles lines ≡ bound_agrees s n roles lines
bound_capped witnessed n roles lines h k = rw (capped_test n roles h)
bound_capped searched n roles lines h k = rw (capped_test n roles h)
bound_capped unsettled n roles lines h k = rw (capped_test n lines k)

bound_few : (s : Standing) (bound roles lines : ℕ) → BoundAgrees s bound roles lines → lines ≤ roles
bound_few witnessed bound roles lines b = omega (arith, b.1)
bound_few searched bound roles lines b = omega (arith, b.1)
bound_few unsettled bound roles lines b = omega (arith, b.1)

module _ {sheet : Sheet} {counts : Counts} {roles : ℕ} {has gives : List ℕ} {w : Witness} {says : Said}
    (s : Says sheet counts roles has gives w says) where
  role_count : says.roles.count ≡ roles
  role_count = ap (λ (set : RoleSet). set.count) s.matrices

  pub counts_as_said : (eqb counts.roles roles && bound_agrees (standing_case counts.standing) counts.bound
      roles w.lines)
      ≡ counts_agree says
  unfolding counts_agree
  counts_as_said =
      rw (
        s.role_number,
        s.bound_number,
        s.standing,
        s.collects.counted,
        role_count,
        capped_test says.count roles (roles_below_cap roles s.few),
        bound_capped says.standing says.bound roles (length says.witness) (roles_below_cap roles s.few)
            s.few_lines,
      )

  -- where the counts agree, every witness line is kept
  lines_kept : So (counts_agree says) → length says.witness ≤ role_limit
  lines_kept agree =
      let few = s.few in
      omega (
        arith,
        role_count,
        bound_few says.standing says.bound says.roles.count (length says.witness)
            (counts_agree_elim says agree).bound,
      )

  -- the counts that were read are those of what is said
  pub confirmed_as : record { number = 0; roles = roles; witness_lines = w.lines } ≡ check_counts says
  confirmed_as = rw (role_count, s.collects.counted)

  -- ---- the product and the witness

  module _ (rows : List ℕ) (shown : RowsOf rows sheet) (wide : permission_count sheet ≤ row_bits) where
    pub product_as_said : Lawful sheet
        → every_below (user_count sheet) (row_agrees rows (roles_in has gives roles)) ≡ product_agrees sheet
        says.roles
    product_as_said lawful = rw s.matrices (rows_are_sheet sheet lawful rows has gives roles shown s.beyond wide)

    pub lines_as_said : So (counts_agree says) → user_count sheet * row_words ≤ length rows → LinesWithin rows w
    lines_as_said agree room =
        lines_within sheet rows w says.witness shown wide s.known s.collects (lines_kept agree) room

    pub witness_as_said : So (counts_agree says) → lines_stand rows w ≡ witness_agrees sheet says.witness
    witness_as_said agree = stands_by_words sheet rows w says.witness shown wide s.known s.collects
        (lines_kept agree)

-- ---- the answer

module _ (sheet : Sheet) (says : Said) where
  pub judged_13 : counts_agree says ≡ false → check_refused 13 ≡ answered (judged_number sheet says) says
  judged_13 e = rw e

  pub judged_14 : So (counts_agree says) → product_agrees sheet says.roles ≡ false
      → check_refused 14 ≡ answered (judged_number sheet says) says
  judged_14 e f = rw (e, f)

  pub judged_15 : So (counts_agree says) → So (product_agrees sheet says.roles)
      → witness_agrees sheet says.witness ≡ false
      → check_refused 15 ≡ answered (judged_number sheet says) says
  judged_15 e f g = rw (e, f, g)

  pub judged_right : So (counts_agree says) → So (product_agrees sheet says.roles)
      → So (witness_agrees sheet says.witness)
      → check_counts says ≡ answered (judged_number sheet says) says
  judged_right e f g = rw (e, f, g)
