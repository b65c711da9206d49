-- A user's row, role after role: at first it has nothing, and when it takes role r it has, after r + 1 roles, what it
-- had or what the role opens, cell by cell of every word.
use Rattle.std.specs.Prelude.{ℕ, suc, ◌+◌, ◌*◌, ◌/◌, ◌%◌, ◌≤◌, ◌<◌, ◌≡◌, refl, Bool, ◌&&◌, ◌||◌, List, eqb, length, get_or, set, replicate}
use Rattle.std.proofs.Common.{mod-lt, add-one, arith, ap, ◌∙◌, ⊎_elim, lit<, length-set, get_or-set_same, get_or-set_other}
use Rattle.std.proofs.Math.Arith.{digits_div, digits_mod}
use Rattle.std.specs.Int.Bits.{bit_and, bit_or}
use Rattle.spec.specs.RoleSet.{opens, cell_after, or_over_roles}
use Rattle.bits.specs.Laws.Below.{below_or_from}
use Rattle.bits.specs.Bit.{bit, word_bits}
use Rattle.bits.specs.Laws.Bit.{bit_of_and, bit_of_or, bit_first, bit_next}
use Rattle.cell_rows.specs.Rows.{row_words, row_bits, cell}
use Rattle.cell_rows.specs.CellPlaces.{marked}
use Rattle.cell_rows.specs.Laws.Width.{word_in_row}
use Rattle.cells.specs.Laws.MadeCells.{no_cells}
use Rattle.product.specs.RowAfter.{roles_in, RowAfter}
use Rattle.product.specs.Laws.OrOverRoles.{what_a_cell_has_after_r_roles_is_the_or_over_roles_1_to_r}

-- ---- word after word of a role's row

-- the first n words of a row have taken a role, which the user has or not, and its other words stay
pub record RoleTaken (row after gives : List ℕ) (role : ℕ) (owned : Bool) (n : ℕ) : Type 0 where
  pub size : length after ≡ length row
  pub bits : (k q : ℕ) → k < n → q < word_bits
      → bit (get_or after k 0) q ≡ (bit (get_or row k 0) q || (owned && bit (get_or gives (role * row_words + k) 0) q))
  pub rest : (k : ℕ) → n ≤ k → get_or after k 0 ≡ get_or row k 0

pub take_start : (row gives : List ℕ) (role : ℕ) (owned : Bool) → RoleTaken row row gives role owned 0
take_start row gives role owned =
    record { size = refl; bits = λ k q l m. absurd (omega arith); rest = λ k l. refl }

pub take_more : {row after gives : List ℕ} {role n : ℕ} {owned : Bool} → RoleTaken row after gives role owned n
    → (all : ℕ) → ((q : ℕ) → q < word_bits → bit all q ≡ owned) → n < length after
    → RoleTaken row (set after n (bit_or (get_or after n 0)
    (bit_and all (get_or gives (role * row_words + n) 0)))) gives role
    owned (n + 1)
take_more {row} {after} {gives} {role} {n} {owned} taken all says inside =
    record {
      size = length-set after n word ∙ taken.size;
      bits = λ k q l m.
          ⊎_elim
          (λ (b : k < n).
          ap (λ (w : ℕ). bit w q) (get_or-set_other after n k word 0 (λ e. omega arith)) ∙ taken.bits k q b m)
          (λ (b : n ≤ k).
          let last : k ≡ n = omega arith in
          rw (
            last,
            get_or-set_same after n word 0 inside,
            bit_of_or (get_or after n 0) (bit_and all held) q,
            bit_of_and all held q,
            says q m,
            taken.rest n (omega arith),
          ))
          (below_or_from k n);
      rest = λ k l. get_or-set_other after n k word 0 (λ e. omega arith) ∙ taken.rest k (omega arith);
    }
  where
    held : ℕ
    held = get_or gives (role * row_words + n) 0

    word : ℕ
    word = bit_or (get_or after n 0) (bit_and all held)

-- ---- role after role

pub row_start : (has gives : List ℕ) (u : ℕ) → RowAfter has gives u 0 (replicate row_words 0)
unfolding cell_after
row_start has gives u = record { cells = λ count p l. no_cells row_words p }

pub row_more : {has gives row after : List ℕ} {u r : ℕ} {owned : Bool} → RowAfter has gives u r row
    → RoleTaken row after gives r owned row_words → owned ≡ cell has u r → RowAfter has gives u (r + 1) after
unfolding cell_after
row_more {has} {gives} {row} {after} {u} {r} had taken own =
    record {
      cells = λ count p l.
          rw (add-one r)
          ((rw own at taken).bits (p / word_bits) (p % word_bits) (word_in_row p l) (mod-lt p (lit< tt))
          ∙ ap (λ (b : Bool). b || opens (roles_in has gives count) u p r) (had.cells count p l));
    }

-- so a row after r roles is the "or" over roles 1 to r, at each permission
pub row_is_the_or_over_roles : {has gives row : List ℕ} {u r : ℕ} → RowAfter has gives u r row → (count p : ℕ)
    → p < row_bits → marked row p ≡ or_over_roles (roles_in has gives count) u p r
row_is_the_or_over_roles {has} {gives} {row} {u} {r} after count p l =
    after.cells count p l
    ∙ what_a_cell_has_after_r_roles_is_the_or_over_roles_1_to_r (roles_in has gives count) u p r

-- ---- the roles of a word, from its lowest position on

-- a word without its lowest b positions, moved down by b
pub record RestOf (word b rest : ℕ) : Type 0 where
  pub bits : (q : ℕ) → bit rest q ≡ bit word (b + q)

pub rest_start : (word : ℕ) → RestOf word 0 word
rest_start word = record { bits = λ q. ap (bit word) (omega arith) }

pub rest_more : {word b rest : ℕ} → RestOf word b rest → RestOf word (b + 1) (rest / 2)
rest_more {word} {b} {rest} from =
    record { bits = λ q. rw (← bit_next rest q) (from.bits (suc q) ∙ ap (bit word) (omega arith)) }

-- position 0 of what is left of the user's word says whether the user has the role of the lowest position left
pub rest_lowest : (has : List ℕ) (u j b rest : ℕ) → RestOf (get_or has (u * row_words + j) 0) b rest → b < word_bits
    → eqb (rest % 2) 1 ≡ cell has u (j * word_bits + b)
rest_lowest has u j b rest from l =
    rw (← bit_first rest, digits_div j l, digits_mod j l)
    (from.bits 0 ∙ ap (bit (get_or has (u * row_words + j) 0)) (omega arith))
