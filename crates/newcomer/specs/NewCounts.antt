-- Block 1 of the new book from that of the given one. Assumes nothing.
use Rattle.std.specs.Prelude.{ℕ, cond, eqb}
use Rattle.standing.specs.declared.standing.Standing.TheVariants as standing
use Rattle.book_lines.specs.declared.counts.Counts.{Counts}

-- the same, where there are as many roles as before; else `open`, and the witness count for a bound
abbrev pub new_counts : Counts → ℕ → ℕ → Counts
new_counts counts roles lines =
    cond (eqb roles counts.roles) counts
    (record { roles = roles; bound = lines; standing = standing.Open })
