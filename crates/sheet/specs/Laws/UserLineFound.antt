-- The line of a user that stands in a text is found, and what follows it. Assumes nothing.
use Rattle.std.specs.Prelude.{ℕ, zero, suc, ◌+◌, ◌*◌, ◌≤◌, ◌<◌, ◌≡◌, refl, Bool, ◌&&◌, List, [], ◌∷◌, ◌++◌, eqb, ltb}
use Rattle.std.specs.Prelude.{length, get_or, drop, Some}
use Rattle.std.proofs.Common.{arith, add-one, sym, ap, ◌∙◌, append_assoc, lt-ltb, eq-eqb, length-drop, get_or-drop}
use Rattle.std.proofs.Math.Bool.{So}
use Rattle.spec.specs.Text.{Bytes, comma, line_feed}
use Rattle.spec.specs.Sheet.{cell_text}
use Rattle.bits.specs.Truth.{and_intro}
use Rattle.cell_rows.specs.Rows.{cell}
use Rattle.places.specs.Places.{part}
use Rattle.text.specs.Line.{separator}
use Rattle.cells_read.specs.CellsWord.{cells_text}
use Rattle.cells_read.specs.RowCells.{RowRead}
use Rattle.cells_read.specs.Laws.CellsStanding.{cells_length}
use Rattle.text.specs.Laws.Line.{line_parts}
use Rattle.sheet.specs.Laws.FirstLine.{fields_text}
use Rattle.sheet.specs.Spelled.{name_read}
use Rattle.sheet.specs.UserLine.{Spells, LineStands}
use Rattle.steps.specs.Steps.{Misses}
use Rattle.steps.specs.Laws.Stands.{stands_then, stands_found, stands_part}
use Rattle.steps.specs.Laws.Step.{stands_place}
use Rattle.sheet.specs.Laws.Spelled.{behind, name_stands, name_found}

-- fields behind commas and a line feed start with a byte that ends a field
pub record Behind (text : Bytes) : Type 0 where
  pub byte : ℕ
  pub rest : Bytes
  pub starts : text ≡ byte ∷ rest
  pub ends : So (separator byte)

pub fields_behind : (count : ℕ) (field : ℕ → Bytes) (rest : Bytes)
    → Behind (fields_text count field ++ line_feed ∷ rest)
fields_behind zero field rest = record { byte = line_feed; rest = rest; starts = refl; ends = refl }
fields_behind (suc count) field rest = record { byte = comma; rest = _; starts = refl; ends = refl }

-- a byte at the head of what is left of a text is found
pub byte_found : (text : Bytes) (at b : ℕ) (rest : Bytes) → drop at text ≡ b ∷ rest
    → So (ltb at (length text) && eqb (get_or text at 0) b)
byte_found text at b rest e =
    let long : at < length text = omega (arith, ap length e, length-drop at text) in
    let there : get_or text at 0 ≡ b =
    ap (λ (k : ℕ). get_or text k 0) (omega arith) ∙ sym (get_or-drop at text 0 0) ∙ ap (λ (l : Bytes). get_or l 0 0) e
    in
    and_intro (ltb at (length text)) (eqb (get_or text at 0) b) (lt-ltb at (length text) long)
    (eq-eqb (get_or text at 0) b there)

module _ (text : Bytes) (at width : ℕ) (name : Bytes) (ones : ℕ → Bool) (rest : Bytes)
    (line : Spells text at width name ones rest) where
  in_parts : drop at text ≡ name ++ (cells_text width ones ++ line_feed ∷ rest)
  in_parts =
      line.spelled ∙ ap (λ (l : Bytes). l ++ rest) (line_parts name width (λ i. cell_text (ones i)))
      ∙ append_assoc (name ++ cells_text width ones) (line_feed ∷ []) rest ∙ append_assoc name (cells_text width ones)
      (line_feed ∷ rest)

  pub line_name_found : name_read text at ≡ Some (at + length name)
  line_name_found =
      let b = fields_behind width (λ i. cell_text (ones i)) rest in
      name_found text at name b.byte b.rest line.named b.ends
      (in_parts ∙ ap (λ (l : Bytes). name ++ l) b.starts)

  behind_name : drop (at + length name) text ≡ cells_text width ones ++ line_feed ∷ rest
  behind_name = behind text at name (cells_text width ones ++ line_feed ∷ rest) in_parts

  pub cells_found : (to : ℕ) → to ≡ at + length name → Misses text to (cells_text width ones) → ⊥
  cells_found to e none = none.misses (line_feed ∷ rest) (rw e behind_name)

  behind_cells : drop (at + length name + 2 * width) text ≡ line_feed ∷ rest
  behind_cells =
      let two : length (cells_text width ones) ≡ 2 * width = omega (arith, cells_length width ones) in
      rw two at (behind text (at + length name) (cells_text width ones) (line_feed ∷ rest) behind_name)

  pub line_feed_found : So (ltb (at + length name + 2 * width) (length text)
      && eqb (get_or text (at + length name + 2 * width) 0) line_feed)
  line_feed_found = byte_found text (at + length name + 2 * width) line_feed rest behind_cells

  pub behind_line : drop (at + length name + 2 * width + 1) text ≡ rest
  behind_line = behind text (at + length name + 2 * width) (line_feed ∷ []) rest behind_cells

-- cells that were read end two bytes further for each
pub cells_end : {text : Bytes} {at row width next : ℕ} {words after : List ℕ} → RowRead text at row width words after
    next
    → next ≡ at + 2 * width
cells_end {row = row} {width} {after = after} r =
    omega (arith, stands_place r.reads, cells_length width (cell after row))

-- a name, cells and a line feed are such a line
pub line_stands : {text : Bytes} {at width row to end : ℕ} {words after : List ℕ} → at ≤ length text
    → Some to ≡ name_read text at → RowRead text to row width words after end
    → So (ltb end (length text) && eqb (get_or text end 0) line_feed)
    → LineStands text at width row words after (record { to = to; next = end + 1 })
line_stands {text} {at} {width} {row} {to} {end} {after = after} h named cells p =
    let name = name_stands text at to h named in
    record {
      name = name;
      grown = cells.grown;
      forward = omega (arith, name.forward, cells.reads.forward);
      stands = rw (add-one, line_parts (part at to text) width (λ i. cell_text (cell after row i)))
          (stands_then
          (stands_then (stands_part text at to (omega (arith, name.forward)) name.within) cells.reads)
          (stands_found text end line_feed p));
      behind = λ other ones rest line.
          (let start : to ≡ at + length other = cc (line_name_found text at width other ones rest line) in
          rw (cells_end cells, start) (behind_line text at width other ones rest line));
    }
