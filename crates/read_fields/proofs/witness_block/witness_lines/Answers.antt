-- `witness_block::witness_lines`: the lines up to `next` have been read.
use Rattle.std.proofs.Common.{arith, ap, lt-ltb, le-ltb}
use Rattle.spec.specs.Limits.{role_limit}
use Rattle.spec.specs.Sheet.{sheet_of}
use Rattle.rules.specs.AcceptedFacts.{accepted_lawful}
use Rattle.steps.specs.Laws.Step.{stands_place}
use Rattle.read_fields.specs.declared.witness_block.Witness.{Witness}
use Rattle.read_fields.specs.WitnessSteps.{lines_start, lines_bound, line_read, lines_off, line_some}
use Rattle.read_fields.proofs.witness_block.witness_lines.Goals as goal
use Rattle.read_fields.proofs.witness_block.witness_lines.Goals.{then-witness-lt-ROLE_LIMIT}
use Rattle.read_fields.proofs.witness_block.witness_lines.Goals.{else-witness-lt-ROLE_LIMIT}

pub loop-next-init : goal.loop-next-init
loop-next-init c =
    rw c.none-witness.ensures
    (lines_start (sheet_of c.args.sheet.now) c.args.book.now c.args.at c.requires.0)

pub returns-in_err-line : goal.returns-in_err-line
returns-in_err-line c =
    let sheet = c.args.sheet.now in
    rw c.from_residual.ensures
    (lines_off (sheet_of sheet) (accepted_lawful sheet c.requires.1.accepts) c.loop-next.invariant
    c.loop-next-test.true c.in_err-line.ensures)

pub overflow_add-witness : goal.overflow_add-witness
overflow_add-witness c =
    let few = lines_bound c.loop-next.invariant in
    elim c.if-witness-lt-ROLE_LIMIT.branch [
      | then-witness-lt-ROLE_LIMIT w ↦
          omega (arith, few, c.well_formed.0.1, ap (λ (v : Witness). v.lines) w.witness-is)
      | else-witness-lt-ROLE_LIMIT w ↦
          omega (arith, few, c.well_formed.0.1, ap (λ (v : Witness). v.lines) w.witness-is)
    ]

pub loop-next-smaller : goal.loop-next-smaller
loop-next-smaller c =
    let line = c.in_ok-line.ensures in
    omega (arith, line_some line.fields, stands_place line.reads, line.reads.within, c.loop-next-test.true)

pub loop-next-preserved : goal.loop-next-preserved
unfolding role_limit
loop-next-preserved c =
    let more = line_read c.loop-next.invariant c.in_ok-line.ensures in
    let lines = c.loop-next.witness.lines in
    elim c.if-witness-lt-ROLE_LIMIT.branch [
      | then-witness-lt-ROLE_LIMIT w ↦
          rw w.witness-is (rw (lt-ltb lines role_limit w.if-witness-lt-ROLE_LIMIT.true) at more)
      | else-witness-lt-ROLE_LIMIT w ↦
          rw w.witness-is (rw (le-ltb lines role_limit w.if-witness-lt-ROLE_LIMIT.false) at more)
    ]
