-- `copied`: behind the bytes that are put in front of zeros, the zeros are left.
use Rattle.std.proofs.Common.{◌≡◌, ◌+◌, ◌-◌, ◌++◌, ◌∙◌, ◌≤◌, ℕ, List, arith, drop, length, take, replicate}
use Rattle.std.proofs.lemmas.List.{get_or-append_right, get_or-drop, length-replicate, length-take-le}
use Rattle.spec.specs.Limits.{sheet_limit}
use Rattle.cells.specs.Blank.{BlankFrom, zeros_blank}
use Rattle.kept.proofs.sheet_text.copied.Goals as goal

behind_front : {l : List ℕ} {n : ℕ} (front : List ℕ) → length front ≡ n → BlankFrom n l
    → BlankFrom n (front ++ drop n l)
behind_front {l} {n} front e zeros =
    record {
      blank = λ i h.
          let place : n + (i - n) ≡ i = omega arith in
          get_or-append_right front (drop n l) n i 0 e h ∙ get_or-drop n l (i - n) 0
          ∙ rw place (zeros.blank i h);
    }

-- Of the front of an array of one number, as of any that is long enough, there is as much as is asked.
room : (n x : ℕ) → n ≤ sheet_limit → length (take n (replicate 65_536 x)) ≡ n
unfolding sheet_limit
room n x l = length-take-le n (replicate 65_536 x) (omega (arith, length-replicate {A = ℕ} 65_536 x))

-- What is put in front is as long as its place: the search finds it. The planted mistake `first_byte_copied_everywhere`
-- proves it here of what it puts, so that it fails at the bytes alone.
pub returns-clause-blank_from : goal.returns-clause-blank_from
returns-clause-blank_from c =
    behind_front c.copy_from_slice.new.self
    (c.copy_from_slice.ensures.len ∙ room (length c.args.s.now) 0 c.requires)
    (zeros_blank (length c.args.s.now) 65_536)
