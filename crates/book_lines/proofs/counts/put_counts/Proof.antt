-- `counts::put_counts`: the number of roles behind the line of names, then the bound, then the state.
use borrow.Author.Rules.{rules}
use Prim.Native.Nat.{◌+◌, ◌≤◌}
use native.Mathlib.Omega.{arith}
use mathlib.Core.List.{◌++◌}
use mathlib.Core.Path.{sym}
use lib.ListN.{length}
use Rattle.spec.specs.Text.{ascii, Bytes}
use Rattle.spec.specs.Decimal.{decimal}
use Rattle.standing.specs.StandingCases.{standing_case}
use Rattle.book_lines.specs.Laws.Counts.{counts_parts}
use Rattle.book_lines.specs.CountsText.{standing_text}
use Rattle.text.specs.Written.{WrittenSoFar, end_within, fits_as, front_fits, place_within, room_behind}
use Rattle.text.specs.Written.{then_same_length, then_written, with_rest, within_buffer, written_as}
use Rattle.book_lines.proofs.counts.put_counts.Statement.{statement}
use Rattle.book_lines.proofs.counts.put_counts.Tie as tie

abbrev front : tie.Start → Bytes
front s = ascii "roles,bound,state\n" ++ decimal s.args.counts.roles

abbrev bound : tie.Start → Bytes
bound s = ascii "," ++ decimal s.args.counts.bound

abbrev state : tie.Start → Bytes
state s = standing_text (standing_case s.args.counts.standing)

room : (s : tie.Start) → length ((front s ++ bound s) ++ state s) ≤ length s.args.out.now
room s = fits_as (counts_parts s.args.counts) s.requires

front_room : (s : tie.Start) → length (front s ++ bound s) ≤ length s.args.out.now
front_room s = front_fits (front s ++ bound s) (state s) (room s)

abbrev start : tie.After-put_counted-roles → tie.Start
start c = c.before.before.before.before.before

abbrev first : tie.After-put_counted → tie.After-put_counted-roles
first c = c.before.before.before.before.before.before

behind_roles : (c : tie.After-put_counted-roles)
    → WrittenSoFar (front (start c)) (bound (start c)) (start c).args.out.now c.put_counted-roles.new.out
    c.put_counted-roles.result
behind_roles c = record { written = c.put_counted-roles.ensures; fits = front_room (start c) }

behind_bound : (c : tie.After-put_counted)
    → let a = first c in
    WrittenSoFar (front (start a) ++ bound (start a)) (state (start a)) (start a).args.out.now
    (with_rest a.put_counted-roles.result a.put_counted-roles.new.out c.put_counted.new.out)
    (a.put_counted-roles.result + c.put_counted.result)
behind_bound c =
    record {
      written = then_written (behind_roles (first c)) c.put_counted.ensures;
      fits = room (start (first c));
    }

put_counted_requires : tie.Need-put_counted-roles-requires
put_counted_requires c κs =
    let s = c.before.before.before in
    front_fits (front s.before) (bound s.before) (front_room s.before)

-- the bound is the last before the state
abbrev bounded : tie.After-put_standing → tie.After-put_counted
bounded c = c.before.before.before.before

returns : tie.Need-returns
returns c =
    let put = c.before.before in
    written_as (sym (counts_parts (start (first (bounded put))).args.counts))
    (then_written (behind_bound (bounded put)) put.put_standing.ensures)

pub put_counts_spec : {M : Type 1} → statement M
put_counts_spec =
    tie.close (tie.spec put_counted_requires
    (λ c. within_buffer (behind_roles c.before.before)) (λ c. within_buffer (behind_roles c.before.before))
    (λ c. search rules) (λ c κs. room_behind (behind_roles c.before.before.before.before.before))
    (λ c. omega (arith, place_within (behind_bound c.before.before)))
    (λ c. within_buffer (behind_bound c.before.before)) (λ c. within_buffer (behind_bound c.before.before))
    (λ c. search rules) (λ c κs. room_behind (behind_bound c.before.before.before))
    (λ c. omega (
      arith,
      end_within (behind_bound (bounded c.before.before)) c.before.before.put_standing.ensures,
    ))
    (λ c. then_same_length (behind_bound (bounded c.before.before)) c.before.before.put_standing.ensures)
    returns)
