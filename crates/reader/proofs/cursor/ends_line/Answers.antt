-- `cursor::ends_line`: past the end there is no byte, so no comma.
use Rattle.std.proofs.Common.{ℕ, ◌≡◌, ◌<◌, ◌≤◌, ◌&&◌, eqb, ltb, length, get_or, ap, ◌∙◌, ⊎_elim, lt-ltb, le-ltb}
use Rattle.std.specs.Prelude.{not}
use Rattle.std.proofs.Math.ListN.{get_or-eq_default}
use Rattle.spec.specs.Text.{Bytes, comma}
use Rattle.bits.specs.Laws.Below.{below_or_from}
use Rattle.reader.proofs.cursor.ends_line.Goals as goal

comma_at : (s : Bytes) (to : ℕ) → (ltb to (length s) && eqb (get_or s to 0) comma) ≡ eqb (get_or s to 0) comma
comma_at s to = ⊎_elim inside past (below_or_from to (length s))
  where
    inside : to < length s → (ltb to (length s) && eqb (get_or s to 0) comma) ≡ eqb (get_or s to 0) comma
    inside h = rw (lt-ltb to (length s) h)

    past : length s ≤ to → (ltb to (length s) && eqb (get_or s to 0) comma) ≡ eqb (get_or s to 0) comma
    past h = rw (le-ltb to (length s) h, get_or-eq_default s 0 h)

pub returns : goal.returns
returns c = ap not (c.stands_at.ensures ∙ comma_at c.args.s.now c.args.to)
