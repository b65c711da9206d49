-- A list with the cell of each line has the grants of the witness, in the order of its lines: a cell is that of a
-- grant, and the grant at it is that grant. Assumes nothing.
use Rattle.std.specs.Prelude.{ℕ, ◌+◌, ◌<◌, ◌≡◌, List, map, get_or, take, set}
use Rattle.std.proofs.Common.{ne_of_lt, arith, below_none, below_more, ap, ◌∙◌, length-set, get_or-set_same, get_or-set_other, length-take-le, get_or-take, ext_get_or}
use Rattle.std.proofs.Math.ListN.{length}
use Rattle.std.proofs.lemmas.List.{length-map}
use Rattle.spec.specs.Limits.{role_limit, grant_limit, permission_limit}
use Rattle.spec.specs.Sheet.{Sheet, Grant}
use Rattle.spec.specs.Cover.{grant_at}
use Rattle.lists.specs.EachLaws.{Each}
use Rattle.lists.specs.TestLaws.{member_at}
use Rattle.cell_rows.specs.CellPlaces.{grant_of}
use Rattle.cells.specs.KernelArray.{grant_at_cell}
use Rattle.cells.specs.Laws.CellList.{cell_of, grant_of_cell}
use Rattle.read_fields.specs.WitnessList.{named_grant, Collects}
use Rattle.read_fields.specs.WitnessLineSteps.{Known}
use Rattle.read_fields.specs.declared.witness_block.Witness.{Witness}
use Rattle.judging.specs.WitnessWords.{line_of}
use Rattle.book_lines.specs.RowsSaid.{CellsWithin}
use Rattle.newcomer.specs.WitnessCells.{LinesKept, CellsOf}

-- ---- line after line

module _ (w : Witness) where
  pub no_cells_yet : (cells : List ℕ) → length cells ≡ role_limit → CellsOf w 0 cells
  no_cells_yet cells e =
      record { whole = e; each = below_none (λ i. get_or cells i 0 ≡ cell_of (named_grant (line_of w i))) }

  pub one_cell_more : (cells : List ℕ) (n cell : ℕ) → CellsOf w n cells → n < role_limit
      → cell ≡ cell_of (named_grant (line_of w n)) → CellsOf w (n + 1) (set cells n cell)
  one_cell_more cells n cell so_far h e =
      record {
        whole = length-set cells n cell ∙ so_far.whole;
        each = below_more (λ i. get_or (set cells n cell) i 0 ≡ cell_of (named_grant (line_of w i))) n
            (λ i l. get_or-set_other cells n i cell 0 (ne_of_lt l) ∙ so_far.each i l)
            (get_or-set_same cells n cell 0 (omega (arith, so_far.whole)) ∙ e);
      }

-- ---- all lines

module _ {w : Witness} {grants : List Grant} {cells : List ℕ} (kept : LinesKept w) (collects : Collects w grants)
    (of : CellsOf w w.lines cells) where
  abbrev listed : List ℕ
  listed = take w.lines cells

  pub as_many_cells : length listed ≡ w.lines
  as_many_cells = length-take-le w.lines cells (omega (arith, kept.few, of.whole))

  grant_there : (i : ℕ) → i < w.lines → grant_of (get_or listed i 0) ≡ grant_at grants i
  grant_there i h =
      ap grant_of (get_or-take w.lines cells i 0 h ∙ of.each i h)
      ∙ grant_of_cell (named_grant (line_of w i)) (kept.permission i h)
      ∙ collects.named i (omega (arith, collects.counted)) (omega (arith, kept.few))

  -- the grants at the cells are the witness
  pub cells_are_the_witness : map grant_of listed ≡ grants
  cells_are_the_witness =
      ext_get_or (record { user = 0; permission = 0 }) (map grant_of listed) grants
      (length-map listed grant_of ∙ as_many_cells ∙ collects.counted)
      (λ i h.
      let within : i < w.lines = omega (arith, length-map listed grant_of, as_many_cells) in
      grant_at_cell listed i (omega (arith, as_many_cells)) ∙ grant_there i within)

  -- and each is a cell of the sheet's users and permissions
  pub cells_within : (sheet : Sheet) → Each (Known sheet) grants → CellsWithin listed sheet
  unfolding role_limit permission_limit grant_limit
  cells_within sheet known =
      record {
        few = omega (arith, as_many_cells, kept.few);
        user_below = λ i h.
            rw (ap (λ (g : Grant). g.user) (grant_there i (omega (arith, as_many_cells)))) (at i h).user;
        permission_below = λ i h.
            rw (ap (λ (g : Grant). g.permission) (grant_there i (omega (arith, as_many_cells)))) (at i h).permission;
      }
    where
      at : (i : ℕ) → i < length listed → Known sheet (grant_at grants i)
      at i h =
          known (grant_at grants i)
          (member_at grants i (record { user = 0; permission = 0 }) (omega (arith, as_many_cells, collects.counted)))
