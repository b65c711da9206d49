-- `Session::write`: without a sheet it is refused with 10, on one not yet reduced with 16, and nothing is written.
-- With one that is reduced, the arrays that the session keeps, with the best placement, are the sheet's
-- (`best_belongs`), so the roles found from them are the sheet's; the cells of the witness, listed, are cells of the
-- sheet (`witness_within`); what is written of counts, roles and witness is the book of the sheet where the search
-- stands (`book_held`), and the answer is that of the book's writing (`writes_held`).
use Rattle.std.proofs.Common.{rules, refl, sym, ◌∙◌, subst}
use Rattle.std.proofs.Math.Bool.{So}
use Rattle.spec.specs.Limits.{search_limit, grant_limit}
use Rattle.spec.specs.Sheet.{sheet_of}
use Rattle.answers.specs.Said.{write_said}
use Rattle.checker.specs.Laws.CheckSteps.{number_some}
use Rattle.session.specs.CodeSession.{text_in, state_in, Holds}
use Rattle.session.specs.Laws.CountsHeld.{few_roles_held, counts_held}
use Rattle.session.specs.Laws.BestHeld.{PartsBelong, best_room, best_belongs}
use Rattle.session.specs.Laws.BookHeld.{room_for_witness, witness_within, room_for_roles, book_held}
use Rattle.session.specs.Laws.WritesHeld.{writes_held}
use Rattle.session.specs.Laws.Unready.{writes_unready, ready}
use Rattle.session.specs.declared.Session.{Session as CodeSession}
use Rattle.session.proofs.Session.write.Goals as goal

pub returns-in-Err : goal.returns-in-Err
returns-in-Err c =
    writes_unready c.args.self (c.number.ensures ∙ c.in-Err.ensures) c.args.out.now (write_said c.refused.result)
    c.refused.ensures (λ zero. number_some c.in-Err.refusal (sym c.number.ensures ∙ zero))

pub best_of-best-requires : goal.best_of-best-requires
unfolding search_limit
best_of-best-requires c =
    let s = c.args.self in
    best_room (c.requires.held (ready s c.in_default.ensures refl)) (search rules)

pub roles_of-matrices-requires : goal.roles_of-matrices-requires
unfolding search_limit
roles_of-matrices-requires c =
    let s = c.args.self in
    let h = c.requires.held (ready s c.in_default.ensures refl) in
    record {
      sheet = sheet_of (text_in s);
      placement = (state_in s).best;
      belongs = subst (PartsBelong s) (sym c.best_of-best.ensures) (best_belongs h (search rules));
    }

pub counts_at-counts-requires : goal.counts_at-counts-requires
counts_at-counts-requires c = few_roles_held (c.requires.held (ready c.args.self c.in_default.ensures refl))

pub listed-witness-requires : goal.listed-witness-requires
listed-witness-requires c = room_for_witness (c.requires.held (ready c.args.self c.in_default.ensures refl))

pub write_if_room-writing-requires : goal.write_if_room-writing-requires
write_if_room-writing-requires c =
    let h = c.requires.held (ready c.args.self c.in_default.ensures refl) in
    let counted = counts_held h c.counts_at-counts.result c.counts_at-counts.ensures in
    (h.sheet.laid, room_for_roles h counted, witness_within h c.listed-witness.ensures)

pub returns : goal.returns
unfolding search_limit
returns c =
    let s = c.args.self in
    let reduced = ready s c.in_default.ensures refl in
    let h = c.requires.held reduced in
    let counted = counts_held h c.counts_at-counts.result c.counts_at-counts.ensures in
    let belong = subst (PartsBelong s) (sym c.best_of-best.ensures) (best_belongs h (search rules)) in
    let roles = c.roles_of-matrices.ensures.roles_at _ _ belong in
    writes_held s h reduced (rw (book_held h counted roles c.listed-witness.ensures) at c.write_if_room-writing.ensures)
    (write_said c.of.result) c.of.ensures
