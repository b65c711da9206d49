-- `gathered`: no grant is placed at first, and each turn puts the next one in its class (`Gathered`).
use Rattle.std.proofs.Common.{◌≡◌, refl, add-one, arith}
use Rattle.moves.specs.Gathered.{gathered_none, gathered_more}
use Rattle.moves.proofs.members.gathered.Goals as goal

pub loop-i-init : goal.loop-i-init
loop-i-init c = gathered_none c.args.classes.now

pub set-requires-clause-members_len : goal.set-requires-clause-members_len
set-requires-clause-members_len c = c.loop-i.invariant.sized

pub loop-i-preserved : goal.loop-i-preserved
loop-i-preserved c = rw (add-one c.loop-i.i) (gathered_more c.loop-i.invariant c.set.ensures (λ q l. refl) refl)

pub returns : goal.returns
returns c =
    let all : c.loop-i.i ≡ c.args.depth = omega arith in
    rw all at c.loop-i.invariant
