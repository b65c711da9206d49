-- Sets of cells for the greedy choice: what is left once a grant is taken.
use Rattle.std.specs.Prelude.{ℕ, ◌+◌, ◌*◌, ◌<◌, ◌≡◌, Bool, not, ◌&&◌, List, get_or}
use Rattle.bits.specs.Truth.{and_left}
use Rattle.bits.specs.Bit.{bit, word_bits}
use Rattle.cell_rows.specs.CellPlaces.{grant_of, marked, fit_in, FittingWord, Part}
use Rattle.fit.specs.Laws.FitWord.{marked_in_word}
use Rattle.cells.specs.MadeCells.{MadeCells}
use Rattle.cells.specs.Laws.MadeCells.{made_part}

-- the cell is set in left, and its grant does not fit that at the cell it
abbrev pub left_over : List ℕ → List ℕ → ℕ → ℕ → Bool
left_over rows left it n = marked left n && not (fit_in rows (grant_of it) (grant_of n))

-- a word of left without the fitting word
pub left_over_word : (rows left : List ℕ) (it i word fit : ℕ) → FittingWord rows it i fit
    → ((q : ℕ) → bit word q ≡ (bit (get_or left i 0) q && not (bit fit q)))
    → (q : ℕ) → q < word_bits → bit word q ≡ left_over rows left it (i * word_bits + q)
left_over_word rows left it i word fit fitting says q l = rw (marked_in_word left i q l, ← fitting.bits q l) (says q)

-- what is left over is part of left
pub left_over_part : (rows left : List ℕ) (it end : ℕ) (rest : List ℕ) → MadeCells (left_over rows left it) end rest
    → Part rest left
left_over_part rows left it end rest made =
    made_part (left_over rows left it) end rest left made
    (λ n. and_left (marked left n) (not (fit_in rows (grant_of it) (grant_of n))))
