-- The number for which a search or a writing is refused, from whether a sheet was accepted and whether it is reduced.
-- Assumes nothing.
use Rattle.std.specs.Prelude.{ℕ, Bool, cond}

abbrev pub unready_number : Bool → Bool → ℕ
unready_number loaded reduced = cond loaded (cond reduced 0 16) 10
