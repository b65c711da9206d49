-- The fit table: two words a grant, as many positions as grants. Position j of grant i's words says that grants i and
-- j fit; no position past the kernel is set.
use Rattle.std.specs.Prelude.{ℕ, ◌+◌, ◌*◌, ◌/◌, ◌%◌, ◌<◌, ◌≡◌, Bool, ◌&&◌, List, ltb, length, get_or}
use Rattle.spec.specs.Sheet.{Sheet, Grant}
use Rattle.spec.specs.Cover.{fit_at}
use Rattle.bits.specs.Bit.{bit, word_bits}
use Rattle.cell_rows.specs.CellPlaces.{grant_of, fit_in}

-- the words of a grant
unfoldable pub table_row : ℕ
table_row = 2

-- the grants that a table has room for
abbrev pub table_limit : ℕ
table_limit = table_row * word_bits

-- position j of grant i's words
abbrev pub table_bit : List ℕ → ℕ → ℕ → Bool
table_bit table i j = bit (get_or table (i * table_row + j / word_bits) 0) (j % word_bits)

-- the table of a list of grants, as far as it has room
pub record Table (sheet : Sheet) (grants : List Grant) (table : List ℕ) : Type 0 where
  pub entry :
      (i j : ℕ) → i < table_limit → j < table_limit
      → table_bit table i j ≡ (ltb i (length grants) && ltb j (length grants) && fit_at sheet grants i j)

-- there are grants i and j among these cells, and they fit, as the rows say
abbrev pub fit_among : List ℕ → List ℕ → ℕ → ℕ → Bool
fit_among rows cells i j =
    ltb i (length cells) && ltb j (length cells) && fit_in rows (grant_of (get_or cells i 0))
    (grant_of (get_or cells j 0))

-- word t of the table
abbrev pub table_word : List ℕ → List ℕ → ℕ → ℕ → Bool
table_word rows cells t q = fit_among rows cells (t / table_row) (t % table_row * word_bits + q)

-- the first positions of a word are those that a test says
pub record FirstBits (test : ℕ → Bool) (count word : ℕ) : Type 0 where
  pub bits : (q : ℕ) → q < word_bits → bit word q ≡ (ltb q count && test q)
