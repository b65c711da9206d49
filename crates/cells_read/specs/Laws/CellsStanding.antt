-- Cells that stand in a text, as bytes one after the other. Assumes nothing.
use Rattle.std.specs.Prelude.{ℕ, zero, suc, ◌+◌, ◌*◌, ◌≤◌, ◌≡◌, refl, Bool, true, false, [], ◌∷◌, ◌++◌, length, get_or}
use Rattle.std.specs.Prelude.{drop}
use Rattle.std.proofs.Common.{not-suc-le-zero, arith, sym, ap, ◌∙◌, ⊎_elim, append_assoc, length-append, length-drop}
use Rattle.std.proofs.Common.{get_or-drop}
use Rattle.std.proofs.lemmas.List.{get_or_at}
use Rattle.spec.specs.Text.{Bytes, comma}
use Rattle.spec.specs.Sheet.{cell_text}
use Rattle.bits.specs.Laws.Below.{last_or_below}
use Rattle.lists.specs.Listed.{listed_suc, listed_even}
use Rattle.cells_read.specs.CellsWord.{cell_byte, cells_text, CellsStand}
use Rattle.steps.specs.Stands.{Stands}
use Rattle.steps.specs.Laws.Stands.{stands_nothing, stands_then, stands_byte}

-- a cell is one byte
pub cell_is_byte : (b : Bool) → cell_text b ≡ cell_byte b ∷ []
cell_is_byte true = refl
cell_is_byte false = refl

fewer : (text : Bytes) (at count : ℕ) (ones : ℕ → Bool) → CellsStand text at (suc count) ones
    → CellsStand text at count ones
fewer text at count ones c =
    record {
      within = omega (arith, c.within);
      commas = λ i l. c.commas i (omega arith);
      cells = λ i l. c.cells i (omega arith);
    }

-- cells that stand there are read as their bytes
pub stands_cells : (text : Bytes) (at count : ℕ) (ones : ℕ → Bool) → CellsStand text at count ones
    → Stands text at (cells_text count ones) (at + 2 * count)
stands_cells text at zero ones c =
    let here : at + 2 * 0 ≡ at = omega arith in
    rw here (stands_nothing text at (omega (arith, c.within)))
stands_cells text at (suc count) ones c =
    let last : at + 2 * suc count ≡ suc (suc (at + 2 * count)) = omega arith in
    let next : at + 2 * count + 1 ≡ suc (at + 2 * count) = omega arith in
    let bytes = stands_then (stands_byte text (at + 2 * count) comma (omega (arith, c.within))
    (c.commas count (omega arith)))
    (stands_byte text (suc (at + 2 * count)) (cell_byte (ones count)) (omega (arith, c.within))
    (rw next at (c.cells count (omega arith)))) in
    rw (last, listed_suc count (λ i. comma ∷ cell_text (ones i)))
    (stands_then (stands_cells text at count ones (fewer text at count ones c)) (rw (cell_is_byte (ones count)) bytes))

pub cells_length : (count : ℕ) (ones : ℕ → Bool) → length (cells_text count ones) ≡ count * 2
cells_length count ones = listed_even count 2 (λ i. comma ∷ cell_text (ones i)) (λ i l. rw (cell_is_byte (ones i)))

-- the last of some cells, which bytes there spell
module _ (text : Bytes) (at count : ℕ) (ones : ℕ → Bool) (rest : Bytes)
    (there : drop at text ≡ cells_text count ones ++ comma ∷ cell_byte (ones count) ∷ rest) where
  comma_there : get_or text (at + 2 * count) 0 ≡ comma
  comma_there =
      sym (get_or-drop at text (2 * count) 0) ∙ ap (λ (l : Bytes). get_or l (2 * count) 0) there
      ∙ get_or_at (cells_text count ones) comma (cell_byte (ones count) ∷ rest) 0 (2 * count)
      (omega (arith, cells_length count ones))

  cell_there : get_or text (at + 2 * count + 1) 0 ≡ cell_byte (ones count)
  cell_there =
      let place : at + 2 * count + 1 ≡ at + (2 * count + 1) = omega arith in
      let front : length (cells_text count ones ++ comma ∷ []) ≡ 2 * count + 1 =
      omega (arith, length-append (cells_text count ones) (comma ∷ []), cells_length count ones) in
      rw (
        place,
        ← get_or-drop at text (2 * count + 1) 0,
        there,
        ← append_assoc (cells_text count ones) (comma ∷ []) (cell_byte (ones count) ∷ rest),
      )
      (get_or_at (cells_text count ones ++ comma ∷ []) (cell_byte (ones count)) rest 0 (2 * count + 1) front)

  one_more : at ≤ length text → CellsStand text at count ones → CellsStand text at (suc count) ones
  one_more h earlier =
      record {
        within = omega (
          arith,
          ap length there,
          length-append (cells_text count ones) (comma ∷ cell_byte (ones count) ∷ rest),
          cells_length count ones,
          length-drop at text,
        );
        commas = λ i l. ⊎_elim (λ q. rw q comma_there) (λ k. earlier.commas i k) (last_or_below l);
        cells = λ i l. ⊎_elim (λ q. rw q cell_there) (λ k. earlier.cells i k) (last_or_below l);
      }

-- cells whose bytes stand there
pub cells_stand : (text : Bytes) (at count : ℕ) (ones : ℕ → Bool) (rest : Bytes) → at ≤ length text
    → drop at text ≡ cells_text count ones ++ rest → CellsStand text at count ones
cells_stand text at zero ones rest h e =
    record {
      within = omega arith;
      commas = λ i l. absurd (not-suc-le-zero l);
      cells = λ i l. absurd (not-suc-le-zero l);
    }
cells_stand text at (suc count) ones rest h e =
    let there : drop at text ≡ cells_text count ones ++ comma ∷ cell_byte (ones count) ∷ rest =
    e ∙ ap (λ (l : Bytes). l ++ rest) (listed_suc count (λ i. comma ∷ cell_text (ones i)))
    ∙ append_assoc (cells_text count ones) (comma ∷ cell_text (ones count)) rest ∙ rw (cell_is_byte (ones count)) in
    one_more text at count ones rest there h
    (cells_stand text at count ones (comma ∷ cell_byte (ones count) ∷ rest) h there)
