-- `call::write_new`: the longer sheet is accepted, so its layout and its rows are read. The matrices that were read are
-- such as a newcomer can be put in; with them, the counts and the witness's cells, what is written is the new book.
-- Where there is no room for a new role, it is refused for that.
use Rattle.std.proofs.Common.{◌≡◌, take, refl, ap, ◌∙◌, arith, eqb-true}
use Rattle.std.proofs.lemmas.Result.{err_from_is_err_and}
use Rattle.spec.specs.Sheet.{sheet_of}
use Rattle.spec.specs.Refusal.{refusal}
use Rattle.numbers.specs.declared.refusal.Refusal.TheVariants.{RolesFull}
use Rattle.book_lines.specs.declared.counts.Counts.{Counts}
use Rattle.book_length.specs.BookRows.{rows_book}
use Rattle.checker.specs.Laws.CheckSteps.{number_some}
use Rattle.newcomer.specs.Laws.WitnessCells.{cells_are_the_witness, cells_within}
use Rattle.newcomer.specs.Laws.Numbers.{refused_by, written_as_new_book}
use Rattle.newcomer.specs.Laws.ReadyFacts.{text_accepted, room_for_the_user, few_roles, lines_kept, witness_known}
use Rattle.newcomer.specs.Laws.ReadyFacts.{admit_ready}
use Rattle.newcomer.specs.Laws.NewBook.{refused_for_roles, only_the_buffer, rows_are_the_new_book, room_for_roles}
use Rattle.newcomer.proofs.call.write_new.Goals as goal

pub returns-in_err-longer : goal.returns-in_err-longer
returns-in_err-longer c lent ready =
    absurd
    (number_some c.in_err-longer.field-0.0
    (c.in_err-longer.ensures.number_value ∙ eqb-true (refusal c.args.text.now) 0 (text_accepted ready)))

pub admit-admitted-requires : goal.admit-admitted-requires
admit-admitted-requires c = (room_for_the_user c.requires.ready, few_roles c.requires.ready)

pub returns-in_err-roles : goal.returns-in_err-roles
returns-in_err-roles c lent ready =
    let cause : c.in_err-roles.field-0.0 ≡ RolesFull = grind arith in
    let none =
    rw c.in_err-roles.ensures.ok_part at
    (c.admit-admitted.ensures (sheet_of c.args.text.now) (admit_ready ready c.in_ok-longer.ensures.laid_out.1)) in
    let p = err_from_is_err_and c.from_residual-in_err-roles.result c.from_residual-in_err-roles.ensures.1 in
    rw (p.1, p.2, cause)
    (refused_by lent c.args.out.now (refused_for_roles ready c.args.out.now none) (λ z. omega arith) refl)

pub witness_cells-cells-requires : goal.witness_cells-cells-requires
witness_cells-cells-requires c = lines_kept c.requires.ready

pub write_if_room-requires : goal.write_if_room-requires
write_if_room-requires c =
    let ready = c.requires.ready in
    let at =
    rw c.in_ok-roles.ensures.ok_part at
    (c.admit-admitted.ensures (sheet_of c.args.text.now) (admit_ready ready c.in_ok-longer.ensures.laid_out.1)) in (
      c.in_ok-longer.ensures.laid_out.0,
      omega (
        arith,
        ap (λ (counts : Counts). counts.roles) c.counts_with-counts.ensures,
        room_for_roles ready at,
      ),
      cells_within (lines_kept ready) ready.as_read.says_read.collects c.witness_cells-cells.ensures _
          (witness_known ready),
    )

pub returns : goal.returns
returns c lent ready =
    let text = c.args.text.now in
    let buffer = c.args.out.now in
    let at =
    rw c.in_ok-roles.ensures.ok_part at
    (c.admit-admitted.ensures (sheet_of text) (admit_ready ready c.in_ok-longer.ensures.laid_out.1)) in
    let has = c.admit-admitted.new.has in
    let gives = c.admit-admitted.new.gives in
    let cells = take c.args.read.witness.lines c.witness_cells-cells.result in
    written_as_new_book lent buffer (only_the_buffer ready buffer at.room)
    (ap (λ (counts : Counts). rows_book text has gives cells counts) c.counts_with-counts.ensures
    ∙ rows_are_the_new_book ready at cells
    (cells_are_the_witness (lines_kept ready) ready.as_read.says_read.collects c.witness_cells-cells.ensures))
    refl c.write_if_room.ensures
