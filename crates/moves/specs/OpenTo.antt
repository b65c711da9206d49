-- Which classes are open to a grant: by the placed grants' classes as the machine goes by them, and by the table of
-- members as the code does.
use Rattle.std.specs.Prelude.{ℕ, suc, ◌+◌, ◌*◌, min, pred, Bool, ◌&&◌, cond, List, ltb, leb, get_or}
use Rattle.spec.specs.Vocabulary.{every_below}
use Rattle.spec.specs.Cover.{joins}
use Rattle.bits.specs.Truth.{implies}
use Rattle.lists.specs.LatestFirst.{latest_first}
use Rattle.marks.specs.declared.marks.Marks.{Marks}
use Rattle.marks.specs.Marks.{kernel_words, mark_limit}
use Rattle.moves.specs.FitTable.{fit_in}
use Rattle.moves.specs.Gathered.{member}

-- one past the last class in which grant d may be placed: it is in use or the next one, and with it fewer are in use
-- than the best placement has
abbrev pub class_end : ℕ → ℕ → ℕ → ℕ → ℕ
class_end depth size in_use count = cond (ltb depth size && ltb in_use count) (min (suc in_use) (pred count)) 0

-- class c is not below the next try, and grant d fits all its earlier members
abbrev pub joinable : List ℕ → List ℕ → ℕ → ℕ → ℕ → Bool
joinable table classes d next c = leb next c && joins (fit_in table) d (latest_first classes d) c

-- the words of a grant in the fit table
abbrev pub row : List ℕ → ℕ → Marks
row table d = record { low = get_or table (d * kernel_words) 0; high = get_or table (d * kernel_words + 1) 0 }

-- the words of a class in the table of members
abbrev pub class_row : List ℕ → ℕ → Marks
class_row members c = record { low = get_or members c 0; high = get_or members (mark_limit + c) 0 }

-- all members of class c fit grant d
abbrev pub all_fit : List ℕ → List ℕ → ℕ → ℕ → Bool
all_fit table members d c = every_below mark_limit (λ i. implies (member members c i) (fit_in table d i))

-- class c is not below the next try, and all its members fit grant d
abbrev pub open_to : List ℕ → List ℕ → ℕ → ℕ → ℕ → Bool
open_to table members d next c = leb next c && all_fit table members d c
