-- `Session::search`: without a sheet, and on one not yet reduced, it is refused and the session stays. On one that is
-- reduced, its position is moved on as the machine moves (`ran_in`): the search of the table's kernel is that of the
-- sheet's, and above the limit it makes no step. The answer has the steps made and the counts there (`searches_held`),
-- and what the session holds is kept.
use Rattle.std.proofs.Common.{◌≡◌, refl, sym, ◌∙◌}
use Rattle.std.proofs.Math.Bool.{So}
use Rattle.answers.specs.Said.{search_said}
use Rattle.checker.specs.Laws.CheckSteps.{number_some}
use Rattle.session.specs.CodeSession.{Holds}
use Rattle.session.specs.Laws.Counted.{RanIn}
use Rattle.session.specs.Laws.CountsHeld.{few_roles_held, counts_held}
use Rattle.session.specs.Laws.MovedOn.{ran_in}
use Rattle.session.specs.Laws.SheetHeld.{reduced_sound}
use Rattle.session.specs.Laws.SearchedHeld.{searches_held}
use Rattle.session.specs.Laws.Unready.{searches_unready, ready}
use Rattle.session.proofs.Session.search.Goals as goal

pub returns-in-Err-clause-searches : goal.returns-in-Err-clause-searches
returns-in-Err-clause-searches c =
    searches_unready c.args.self (c.number.ensures ∙ c.in-Err.ensures) c.args.budget (search_said c.refused.result)
    c.refused.ensures (λ zero. number_some c.in-Err.refusal (sym c.number.ensures ∙ zero))

pub counts_at-counts-requires : goal.counts_at-counts-requires
counts_at-counts-requires c =
    let s = c.args.self in
    let reduced = ready s c.in_default.ensures refl in
    let ran = c.search-ran.ensures in
    let on = ran_in (c.requires.held reduced) c.args.budget c.search-ran.result ran.kernel_value ran.position_stands
    ran.position_value in
    few_roles_held on.holds

pub returns-clause-searches : goal.returns-clause-searches
returns-clause-searches c =
    let s = c.args.self in
    let reduced = ready s c.in_default.ensures refl in
    let ran = c.search-ran.ensures in
    let on = ran_in (c.requires.held reduced) c.args.budget c.search-ran.result ran.kernel_value ran.position_stands
    ran.position_value in
    let counts = c.counts_at-counts in
    searches_held on reduced (counts_held on.holds counts.result counts.ensures) (search_said c.found.result)
    c.found.ensures

pub returns-clause-sound : goal.returns-clause-sound
returns-clause-sound c =
    let s = c.args.self in
    let reduced = ready s c.in_default.ensures refl in
    let ran = c.search-ran.ensures in
    let on = ran_in (c.requires.held reduced) c.args.budget c.search-ran.result ran.kernel_value ran.position_stands
    ran.position_value in
    reduced_sound on.holds reduced
