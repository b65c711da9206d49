-- One person moves one role: a book that is believed prints what it says, so where it says `witnessed` or `searched`
-- the role count that it prints is the smallest one of its sheet. Of two such books whose sheets have one change
-- between them the bound of the one is at most 1 above the role count of the other.
use Rattle.std.specs.Prelude.{ℕ, suc, ◌≤◌, ◌≡◌, ◌⊎◌}
use Rattle.std.proofs.Common.{arith, sym, ◌∙◌}
use Rattle.spec.specs.Text.{Bytes}
use Rattle.spec.specs.Sheet.{sheet_of}
use Rattle.spec.specs.Roles.{Standing, witnessed, searched}
use Rattle.spec.specs.Demands.{Believed}
use Rattle.spec.specs.OneChange.{SmallestCount, Prints, PrintsAsSmallest}
use Rattle.right.specs.PrintedCounts.{PrintSame, prints_one, form_prints}
use Rattle.one_change.proofs.OneApart.{ByLines, at_least_but_one}

-- ---- one book

module _ {text book : Bytes} (believed : Believed text book) where
  -- what it prints is what it says
  prints_said : {count bound : ℕ} {word : Standing} → Prints book count bound word
      → PrintSame count believed.says.count bound believed.says.bound word believed.says.standing
  prints_said prints = prints_one prints (form_prints believed.right.of_form)

  -- its role count is the number of its roles
  prints_its_roles : {count bound : ℕ} {word : Standing} → Prints book count bound word
      → believed.says.roles.count ≡ count
  prints_its_roles prints = sym believed.right.counts.roles ∙ sym (prints_said prints).counts

  pub believed_smallest : (n : ℕ) → PrintsAsSmallest book n → SmallestCount n (sheet_of text)
  believed_smallest n printed =
      let same = prints_said printed.prints in
      record {
        roles = believed.says.roles;
        product = believed.right.product;
        counted = prints_its_roles printed.prints;
        none_fewer = λ roles multiplies.
            omega (
              arith,
              same.counts,
              believed.smallest (claimed_of same.words printed.claimed) roles multiplies,
            );
      }
    where
      claimed_of : {word said : Standing} → word ≡ said → (word ≡ witnessed) ⊎ (word ≡ searched)
          → (said ≡ witnessed) ⊎ (said ≡ searched)
      claimed_of same claimed = rw same at claimed

-- ---- two books

-- the bound of the one is at most 1 above the role count of the other
pub bound_but_one : {text book other_text other_book : Bytes} → Believed text book → Believed other_text other_book
    → ByLines (sheet_of text) (sheet_of other_text)
    → {m bound n other_bound : ℕ} {word other_word : Standing} → Prints book m bound word
    → Prints other_book n other_bound other_word → other_bound ≤ suc m
bound_but_one believed other change prints other-prints =
    omega (
      arith,
      at_least_but_one change other.bounded believed.says.roles believed.right.product,
      prints_its_roles believed prints,
      (prints_said other other-prints).bounds,
    )
