-- The singles of a log, entry by entry: an entry whose partner is itself is one more.
use Rattle.std.specs.Prelude.{ℕ, ◌+◌, ◌≡◌, ◌≢◌, List, length, get_or}
use Rattle.std.proofs.Common.{add-one, arith, eq-eqb, ne_eqb}
use Rattle.spec.specs.Reduction.{singles_of}
use Rattle.verdict.specs.Log.{log_of}

-- the singles among the first so many removals
abbrev pub single_count : List ℕ → List ℕ → ℕ → ℕ
single_count removed partner count = length (singles_of (log_of removed partner count))

pub one_single_more : (removed partner : List ℕ) (i : ℕ) → get_or removed i 0 ≡ get_or partner i 0
    → single_count removed partner (i + 1) ≡ single_count removed partner i + 1
one_single_more removed partner i same = rw (add-one i, eq-eqb (get_or removed i 0) (get_or partner i 0) same)
    (omega arith)

pub no_single_more : (removed partner : List ℕ) (i : ℕ) → get_or removed i 0 ≢ get_or partner i 0
    → single_count removed partner (i + 1) ≡ single_count removed partner i
no_single_more removed partner i other = rw (add-one i, ne_eqb (get_or removed i 0) (get_or partner i 0) other)
