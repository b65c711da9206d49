-- `table::passing_word`: the bits so far are those of the cells passed.
use Rattle.std.proofs.Common.{◌≡◌, ◌+◌, ℕ, Bool, get_or}
use Rattle.table.specs.TableWords.{FirstBits}
use Rattle.table.proofs.table.passing_word.Given as goal

abbrev pub invariant-loop-q : goal.invariant-loop-q
invariant-loop-q g l =
    (test : ℕ → Bool) → ((at : _) (r : Bool) → goal.F-post g l.passes at r → r ≡ test at.0)
    → FirstBits (λ n. test (get_or l.cells (l.from + n) 0)) l.q l.word
