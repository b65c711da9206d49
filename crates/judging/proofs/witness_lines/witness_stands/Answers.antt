-- `witness_lines::witness_stands`: the lines below j are held and fit none before them, and they are noted.
use Rattle.std.proofs.Common.{◌≡◌, ◌&&◌, Bool, not, refl, sym, ap, ◌∙◌, arith, length-set}
use Rattle.std.proofs.Math.Bool.{and-false}
use Rattle.spec.specs.Vocabulary.{every_below}
use Rattle.spec.specs.Limits.{role_limit}
use Rattle.bits.specs.Truth.{and_intro, not_passes}
use Rattle.bits.specs.Laws.Below.{missed_below_intro}
use Rattle.bits.specs.Laws.Step.{every_below_step}
use Rattle.cell_rows.specs.Rows.{row_words, row_bits}
use Rattle.cell_rows.specs.Laws.Width.{word_in_row}
use Rattle.cells.specs.Laws.MadeCells.{no_cells}
use Rattle.judging.specs.WitnessWords.{line_of, line_held, fits_earlier, line_stands, lines_stand}
use Rattle.judging.specs.NotedLines.{none_noted, noted_fits, noted_more}
use Rattle.judging.proofs.witness_lines.witness_stands.Goals as goal

pub loop-j-init : goal.loop-j-init
unfolding every_below row_bits row_words
loop-j-init c =
    record { stood = refl; noted = none_noted c.args.witness _ _ (no_cells row_words); sizes = (refl, refl) }

pub offset_bounds-witness-j : goal.offset_bounds-witness-j
unfolding role_limit
offset_bounds-witness-j c = omega (arith, c.requires.few)

pub bounds-witness-j : goal.bounds-witness-j
unfolding role_limit
bounds-witness-j c = omega (arith, c.requires.few)

pub returns-then-not-held : goal.returns-then-not-held
unfolding lines_stand
returns-then-not-held c =
    sym
    (missed_below_intro c.args.witness.lines (line_stands c.args.rows.now c.args.witness) c.loop-j-test.true
    (rw (sym c.held.ensures ∙ c.if-not-held.true)))

pub returns-then-fits_a_noted : goal.returns-then-fits_a_noted
unfolding lines_stand
returns-then-fits_a_noted c =
    let rows = c.args.rows.now in
    let witness = c.args.witness in
    let j = c.loop-j.j in
    let found = c.fits_a_noted.ensures
    ∙ noted_fits rows witness j _ _ c.loop-j.invariant.noted c.requires c.loop-j-test.true in
    sym
    (missed_below_intro witness.lines (line_stands rows witness) c.loop-j-test.true
    (ap (λ (b : Bool). line_held rows (line_of witness j) && not b) (sym found ∙ c.if-fits_a_noted.true)
    ∙ and-false (line_held rows (line_of witness j))))

pub mark-requires : goal.mark-requires
mark-requires c =
    rw c.loop-j.invariant.sizes.0 (word_in_row _ (c.requires.each c.loop-j.j c.loop-j-test.true).place)

pub offset_bounds-owners-permission : goal.offset_bounds-owners-permission
unfolding row_bits row_words
offset_bounds-owners-permission c = omega (arith, (c.requires.each c.loop-j.j c.loop-j-test.true).place)

pub bounds-owners-permission : goal.bounds-owners-permission
unfolding row_bits row_words
bounds-owners-permission c = (c.requires.each c.loop-j.j c.loop-j-test.true).place

pub loop-j-preserved : goal.loop-j-preserved
loop-j-preserved c =
    let rows = c.args.rows.now in
    let witness = c.args.witness in
    let j = c.loop-j.j in
    let so_far = c.loop-j.invariant in
    let found = c.fits_a_noted.ensures
    ∙ noted_fits rows witness j _ _ so_far.noted c.requires c.loop-j-test.true in
    let holds = sym c.held.ensures ∙ c.if-not-held.false in
    let fails = sym found ∙ c.if-fits_a_noted.false in
    record {
      stood =
          (every_below_step j (line_stands rows witness)
          ∙ and_intro (line_stands rows witness j) (every_below j (line_stands rows witness))
          (and_intro (line_held rows (line_of witness j)) (not (fits_earlier rows witness j)) holds
          (not_passes (fits_earlier rows witness j) fails)) so_far.stood);
      noted =
          noted_more rows witness j c.loop-j.taken c.loop-j.owners so_far.noted c.requires so_far.stood holds fails
          c.mark.ensures (rw so_far.sizes.1 (c.requires.each j c.loop-j-test.true).place);
      sizes = (c.mark.ensures.size ∙ so_far.sizes.0, length-set c.loop-j.owners _ _ ∙ so_far.sizes.1);
    }

pub returns : goal.returns
unfolding lines_stand
returns c =
    let all : c.loop-j.j ≡ c.args.witness.lines = omega arith in
    sym (rw all at c.loop-j.invariant.stood)
