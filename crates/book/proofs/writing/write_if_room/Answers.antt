-- `writing::write_if_room`: the length is known before anything is written, and decides which case it is.
use Rattle.std.proofs.Common.{arith, le_trans}
use Rattle.cell_rows.specs.Laws.Width.{roles_fit}
use Rattle.book_length.specs.BookRows.{rows_book}
use Rattle.book_lines.specs.Writing.{refused_short, written_whole}
use Rattle.book.proofs.writing.write_if_room.Goals as goal

pub returns-then-out-book_length : goal.returns-then-out-book_length
returns-then-out-book_length c =
    let a = c.args in
    refused_short (rows_book a.s.now a.has.now a.gives.now a.witness.now a.counts) a.out.now
    (omega (arith, c.if-out-book_length.true, c.book_length.ensures a.has.now a.gives.now))

pub book_length-requires : goal.book_length-requires
book_length-requires c = (c.requires.0, le_trans c.requires.1 roles_fit, c.requires.2)

pub returns : goal.returns
returns c =
    let a = c.args in
    written_whole (rows_book a.s.now a.has.now a.gives.now a.witness.now a.counts)
    (omega (arith, c.if-out-book_length.false, c.book_length.ensures a.has.now a.gives.now)) c.write_book.ensures
