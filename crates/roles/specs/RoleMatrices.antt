-- The two matrices of some grants in roles as rows of words: a user has the role of each of its grants, and a role
-- gives the permission of each of its grants. Each grant sets one cell in either matrix, and the cells set by the
-- grants so far are those that the definition finds among them.
use Rattle.std.specs.Prelude.{ℕ, zero, suc, ◌*◌, ◌%◌, ◌<◌, ◌≡◌, refl, Bool, true, false, ◌&&◌, ◌||◌, List, eqb, get_or, replicate}
use Rattle.std.proofs.Math.Bool.{or_comm, and-true}
use Rattle.spec.specs.Vocabulary.{any}
use Rattle.spec.specs.Roles.{Classed}
use Rattle.bits.specs.Bit.{word_bits}
use Rattle.bits.specs.Truth.{eqb_comm}
use Rattle.bits.specs.Laws.Bit.{bit_of_zero}
use Rattle.cell_rows.specs.Rows.{row_words, row_bits, cell}
use Rattle.cell_rows.specs.CellAdded.{CellAdded, word_of}

-- user u has a grant of role r
abbrev pub has_role : List Classed → ℕ → ℕ → Bool
has_role members u r = any (λ x. eqb x.grant.user u && eqb x.class r) members

-- a grant of role r has permission p
abbrev pub gives_permission : List Classed → ℕ → ℕ → Bool
gives_permission members r p = any (λ x. eqb x.grant.permission p && eqb x.class r) members

-- the words hold a matrix
pub record CellsShow (words : List ℕ) (matrix : ℕ → ℕ → Bool) : Type 0 where
  pub shown : (u p : ℕ) → p < row_bits → cell words u p ≡ matrix u p

-- the words of as many roles as a row has bits
abbrev pub role_words : ℕ
role_words = row_bits * row_words

-- ---- no grant, and one grant more

-- words of zeros hold no cell
pub no_cells : (n : ℕ) → CellsShow (replicate n 0) (λ u p. false)
no_cells n = record { shown = λ u p l. rw (zeros n (word_of u p)) (bit_of_zero (p % word_bits)) }
  where
    zeros : (n i : ℕ) → ◌≡◌ {A = ℕ} (get_or (replicate n 0) i 0) 0
    zeros zero i = refl
    zeros (suc n) zero = refl
    zeros (suc n) (suc i) = zeros n i

-- one cell more
pub one_cell_more : {before after : List ℕ} {matrix next : ℕ → ℕ → Bool} (a b : ℕ) → CellAdded before after a b true
    → CellsShow before matrix → ((u p : ℕ) → next u p ≡ ((eqb a u && eqb b p) || matrix u p)) → CellsShow after next
one_cell_more {matrix} a b added so_far more =
    record {
      shown = λ u p l.
          rw (added.shows u p l, so_far.shown u p l, eqb_comm u a, eqb_comm p b, and-true (eqb b p), more u p)
          (or_comm (matrix u p) (eqb a u && eqb b p));
    }
