-- `judgement::judge_book`: the three judgements in turn, each that of what the book says.
use Rattle.std.proofs.Common.{◌≡◌, ℕ, ◌≤◌, List, sym, ◌∙◌, arith}
use Rattle.std.proofs.Math.Bool.{So}
use Rattle.spec.specs.Vocabulary.{every_below}
use Rattle.spec.specs.Text.{Bytes}
use Rattle.spec.specs.Sheet.{sheet_of, user_count, permission_count}
use Rattle.spec.specs.Book.{Said}
use Rattle.spec.specs.Refusal.{accepted, counts_agree, product_agrees, witness_agrees}
use Rattle.cell_rows.specs.Rows.{row_bits}
use Rattle.cell_rows.specs.Laws.Width.{permissions_fit, roles_fit}
use Rattle.cells.specs.RowsRead.{RowsRead}
use Rattle.rules.specs.AcceptedFacts.{accepted_lawful}
use Rattle.product.specs.RowAfter.{roles_in}
use Rattle.product.specs.RowAgrees.{row_agrees}
use Rattle.judging.specs.declared.judgement.BookRead.{BookRead}
use Rattle.judging.specs.WitnessWords.{lines_stand}
use Rattle.judging.specs.BookSays.{Says, counts_as_said, product_as_said, lines_as_said, witness_as_said}
use Rattle.judging.specs.BookSays.{confirmed_as, judged_13, judged_14, judged_15, judged_right}
use Rattle.judging.proofs.judgement.judge_book.Goals as goal

-- an accepted sheet is no wider than a row
wide : (text : Bytes) → So (accepted text) → permission_count (sheet_of text) ≤ row_bits
wide text stands = omega (arith, (accepted_lawful text stands).few_permissions, permissions_fit)

module _ (text : Bytes) (rows : List ℕ) (users : ℕ) (book : BookRead) (has gives : List ℕ)
    (so : So (accepted text) × RowsRead rows (sheet_of text) × (users ≡ user_count (sheet_of text)))
    (says : Said) (s : Says (sheet_of text) book.counts book.roles has gives book.witness says) where
  product_told : every_below users (row_agrees rows (roles_in has gives book.roles))
      ≡ product_agrees (sheet_of text) says.roles
  product_told = rw so.2 (product_as_said s rows so.1.rows (wide text so.0) (accepted_lawful text so.0))

  witness_told : So (counts_agree says) → lines_stand rows book.witness ≡ witness_agrees (sheet_of text) says.witness
  witness_told agree = witness_as_said s rows so.1.rows (wide text so.0) agree

pub returns-then-not-counts_agree : goal.returns-then-not-counts_agree
returns-then-not-counts_agree c =
    record {
      judged = λ says s.
          judged_13 (sheet_of c.args.sheet.now) says
          (sym (counts_as_said s) ∙ sym c.counts_agree.ensures ∙ c.if-not-counts_agree.true);
    }

pub rows_agree-requires : goal.rows_agree-requires
rows_agree-requires c =
    let room = c.requires.row_words_in_bounds in
    (omega (arith, c.requires.book_says.said.few, roles_fit), room.0, room.1, room.2)

pub returns-then-not-rows_agree : goal.returns-then-not-rows_agree
returns-then-not-rows_agree c =
    let a = c.args in
    record {
      judged = λ says s.
          judged_14 (sheet_of a.sheet.now) says
          (sym (counts_as_said s) ∙ sym c.counts_agree.ensures ∙ c.if-not-counts_agree.false)
          (sym (product_told a.sheet.now a.rows.now a.users a.book a.has.now a.gives.now c.requires.so says s)
          ∙ sym c.rows_agree.ensures ∙ c.if-not-rows_agree.true);
    }

pub witness_stands-requires : goal.witness_stands-requires
witness_stands-requires c =
    let text = c.args.sheet.now in
    let so = c.requires.so in
    let said = c.requires.book_says.said in
    lines_as_said said c.args.rows.now so.1.rows (wide text so.0)
    (sym (counts_as_said said) ∙ sym c.counts_agree.ensures ∙ c.if-not-counts_agree.false)
    (rw so.2 at c.requires.row_words_in_bounds.0)

pub returns-then-not-witness_stands : goal.returns-then-not-witness_stands
returns-then-not-witness_stands c =
    let a = c.args in
    let so = c.requires.so in
    record {
      judged = λ says s.
          (let agree : So (counts_agree says) =
          sym (counts_as_said s) ∙ sym c.counts_agree.ensures ∙ c.if-not-counts_agree.false in
          judged_15 (sheet_of a.sheet.now) says agree
          (sym (product_told a.sheet.now a.rows.now a.users a.book a.has.now a.gives.now so says s)
          ∙ sym c.rows_agree.ensures ∙ c.if-not-rows_agree.false)
          (sym (witness_told a.sheet.now a.rows.now a.users a.book a.has.now a.gives.now so says s agree)
          ∙ sym c.witness_stands.ensures ∙ c.if-not-witness_stands.true));
    }

pub returns : goal.returns
returns c =
    let a = c.args in
    let so = c.requires.so in
    record {
      judged = λ says s.
          (let agree : So (counts_agree says) =
          sym (counts_as_said s) ∙ sym c.counts_agree.ensures ∙ c.if-not-counts_agree.false in
          confirmed_as s
          ∙ judged_right (sheet_of a.sheet.now) says agree
          (sym (product_told a.sheet.now a.rows.now a.users a.book a.has.now a.gives.now so says s)
          ∙ sym c.rows_agree.ensures ∙ c.if-not-rows_agree.false)
          (sym (witness_told a.sheet.now a.rows.now a.users a.book a.has.now a.gives.now so says s agree)
          ∙ sym c.witness_stands.ensures ∙ c.if-not-witness_stands.false));
    }
