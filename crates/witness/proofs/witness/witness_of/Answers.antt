-- `witness::witness_of`: the cells of the singles and of the grants taken are those of the witness, and there are w of
-- them.
use Rattle.witness.specs.WitnessRows.{witnessed}
use Rattle.witness.proofs.witness.witness_of.Goals as goal

pub returns : goal.returns
returns c sheet shown reduced =
    let chosen_cells = c.choose.ensures sheet shown reduced.kernel_part in
    witnessed shown reduced chosen_cells c.counted-count.result c.counted-count.ensures
