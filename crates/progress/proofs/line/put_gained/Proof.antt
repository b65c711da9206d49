-- `line::put_gained`: the smaller count is taken from the larger, and the minus sign is the last byte in front of the
-- number where more was taken back than placed.
use borrow.Author.Rules.{rules}
use mathlib.Core.Path.{sym}
use Rattle.text.specs.Written.{fits_as, written_as}
use Rattle.progress.specs.Laws.Line.{fell_back, climbed}
use Rattle.progress.proofs.line.put_gained.Statement.{statement}
use Rattle.progress.proofs.line.put_gained.Tie as tie

put_counted_requires : tie.Need-put_counted-requires
put_counted_requires c κs =
    let t = c.before.before in
    let s = t.before.before in
    fits_as (sym (fell_back s.args.placed s.args.taken_back t.if-placed-taken_back.true)) s.requires

returns : tie.Need-returns-then-placed-taken_back
returns c =
    let put = c.before.before in
    let t = put.before.before.before in
    let s = t.before.before in
    written_as (fell_back s.args.placed s.args.taken_back t.if-placed-taken_back.true) put.put_counted.ensures

put_counted_requires_2 : tie.Need-put_counted-requires-2
put_counted_requires_2 c κs =
    let e = c.before.before in
    let s = e.before.before in
    fits_as (sym (climbed s.args.placed s.args.taken_back e.if-placed-taken_back.false)) s.requires

returns_2 : tie.Need-returns
returns_2 c =
    let put = c.before.before in
    let e = put.before.before.before in
    let s = e.before.before in
    written_as (climbed s.args.placed s.args.taken_back e.if-placed-taken_back.false) put.put_counted-2.ensures

pub put_gained_spec : {M : Type 1} → statement M
put_gained_spec =
    tie.close (tie.spec (λ c. search rules) (λ c. search rules) put_counted_requires
    (λ c. search rules) returns (λ c. search rules) put_counted_requires_2 (λ c. search rules)
    returns_2)
