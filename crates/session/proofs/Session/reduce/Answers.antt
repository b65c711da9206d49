-- `session::Session::reduce`: without a sheet it is refused and the session stays. A sheet that is reduced already has
-- its counts, and the session stays too. Any other is prepared from its rows, which show it (`shows_held`): the session
-- then has what was found and the position before the first step (`Anew`), and its counts are those found.
use Rattle.std.proofs.Common.{refl, ap, ◌∙◌}
use Rattle.spec.specs.Calls.{reduce_refused}
use Rattle.answers.specs.Said.{reduce_said}
use Rattle.session.specs.CodeSession.{HoldsSheet}
use Rattle.session.specs.Laws.SheetHeld.{few_grants_held, shown_held, shows_held, reduced_sound}
use Rattle.session.specs.Laws.ReducedAnew.{Anew, holds_anew}
use Rattle.session.specs.Laws.Reducing.{reduces_nothing, reduces_again, reduces_anew}
use Rattle.session.proofs.Session.reduce.Goals as goal

pub returns-then-not-self-clause-reduces : goal.returns-then-not-self-clause-reduces
returns-then-not-self-clause-reduces c =
    reduces_nothing c.args.self (reduce_said c.refused.result) c.if-not-self.true
    (c.refused.ensures ∙ ap reduce_refused c.number.ensures)

pub returns-then-self-clause-reduces : goal.returns-then-self-clause-reduces
returns-then-self-clause-reduces c =
    let reduced = c.if-self.true in
    reduces_again c.args.self (reduce_said c.found.result) (c.requires.held reduced) reduced c.found.ensures

pub prepare-prepared-requires : goal.prepare-prepared-requires
prepare-prepared-requires c = shows_held (c.requires.sheet c.if-not-self.false)

pub returns-clause-reduces : goal.returns-clause-reduces
returns-clause-reduces c =
    let s = c.args.self in
    let held : HoldsSheet s = c.requires.sheet c.if-not-self.false in
    let anew : Anew s c.prepare-prepared.result c.start-position.result =
    record {
      accepts = c.if-not-self.false;
      sheet = held;
      found = c.prepare-prepared.ensures _ (shown_held held) (few_grants_held held);
      first = c.first_classes-first.result;
      same = λ l. c.first_classes-first.ensures _ l;
      starts = c.start-position.ensures;
    } in
    reduces_anew s (reduce_said c.found-2.result) c.if-self.false anew c.found-2.ensures

pub returns-clause-sound : goal.returns-clause-sound
returns-clause-sound c =
    let s = c.args.self in
    let held : HoldsSheet s = c.requires.sheet c.if-not-self.false in
    let anew : Anew s c.prepare-prepared.result c.start-position.result =
    record {
      accepts = c.if-not-self.false;
      sheet = held;
      found = c.prepare-prepared.ensures _ (shown_held held) (few_grants_held held);
      first = c.first_classes-first.result;
      same = λ l. c.first_classes-first.ensures _ l;
      starts = c.start-position.ensures;
    } in
    reduced_sound (holds_anew anew) refl
