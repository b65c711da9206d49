-- `class_for`: the classes from the next try on are looked through, and those before are not open to the grant. One
-- whose words are within the grant's is open, and then the lowest; with none left, none is.
use Rattle.std.proofs.Common.{◌≡◌, sym, ◌∙◌, arith}
use Rattle.moves.specs.OpenTo.{all_fit}
use Rattle.moves.specs.Laws.Choice.{within_row, none_open, opens_at, passes_at, opens_nowhere}
use Rattle.moves.proofs.choice.class_for.Goals as goal
use Rattle.moves.proofs.choice.class_for.Goals.{After-within}

pub returns-then-end-next : goal.returns-then-end-next
returns-then-end-next c =
    let a = c.args in
    opens_nowhere a.fit.now a.members.now a.grant.0 a.next a.end (λ q l. none_open a.fit.now
    a.members.now a.grant.0 a.next l)
    c.if-end-next.true

pub fitting-fits-requires : goal.fitting-fits-requires
fitting-fits-requires c = c.requires.grant_lt_mark_limit (omega arith)

pub loop-c-init : goal.loop-c-init
loop-c-init c = λ q l. none_open c.args.fit.now c.args.members.now c.args.grant.0 c.args.next l

-- the test tells whether all members of the class fit the grant
told : (c : After-within) → c.within.result ≡ all_fit c.args.fit.now c.args.members.now c.args.grant.0 c.loop-c.c
told c =
    c.within.ensures
    ∙ rw (c.of_class.ensures, c.fitting-fits.ensures)
    (within_row c.args.fit.now c.args.members.now c.args.grant.0 c.loop-c.c)

pub returns-then-within : goal.returns-then-within
returns-then-within c =
    let a = c.args in
    opens_at a.fit.now a.members.now a.grant.0 a.next a.end c.loop-c.invariant c.loop-c.auto.c c.loop-c-test.true
    (sym (told (goal.at.returns-then-within c).After-within) ∙ c.if-within.true)

pub loop-c-preserved : goal.loop-c-preserved
loop-c-preserved c =
    let a = c.args in
    passes_at a.fit.now a.members.now a.grant.0 a.next a.end c.loop-c.invariant
    (sym (told (goal.at.loop-c-preserved c).After-within) ∙ c.if-within.false)

pub returns : goal.returns
returns c =
    let a = c.args in
    opens_nowhere a.fit.now a.members.now a.grant.0 a.next a.end c.loop-c.invariant c.loop-c-test.false
