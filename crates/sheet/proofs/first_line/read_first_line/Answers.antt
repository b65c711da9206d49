-- `first_line::read_first_line`: one more name stands behind those read so far; and where a first line stands there,
-- it is the one that is read.
use Rattle.std.proofs.Common.{ℕ, ◌+◌, ◌≡◌, false, ◌&&◌, List, [], ◌∷◌, ◌++◌, eqb, ltb, length, get_or, drop, arith}
use Rattle.std.proofs.Common.{add-one, sym}
use Rattle.std.specs.Prelude.{Some}
use Rattle.std.proofs.Math.Bool.{So}
use Rattle.spec.specs.Limits.{sheet_limit, permission_limit}
use Rattle.spec.specs.Text.{ascii, Bytes, comma, line_feed, line_text}
use Rattle.bits.specs.Truth.{not_both}
use Rattle.sheet.specs.Spelled.{name_read, NameAt}
use Rattle.sheet.specs.FirstLine.{NamesFit}
use Rattle.steps.specs.Laws.Stands.{stands_found}
use Rattle.sheet.specs.Laws.Spelled.{behind, read_or_not, name_stands}
use Rattle.sheet.specs.Laws.UserLineFound.{byte_found}
use Rattle.sheet.specs.Laws.FirstLine.{names_start, names_more, first_line_stands}
use Rattle.sheet.specs.Laws.FirstLineFound.{NamesLeft, user_found, names_left_start, name_below, next_name}
use Rattle.sheet.specs.Laws.FirstLineFound.{all_read, feed_left, names_left_next}
use Rattle.sheet.proofs.first_line.read_first_line.Goals as goal

-- a name that is read behind a comma stands there
name_at : (s : Bytes) (at to : ℕ) → So (ltb at (length s) && eqb (get_or s at 0) comma)
    → Some to ≡ name_read s (at + 1) → NameAt s (at + 1) to
name_at s at to found named =
    name_stands s (at + 1) to (omega (arith, (stands_found s at comma found).within)) named

-- past the loop all names are read
all : (s : Bytes) (n at : ℕ) → NamesLeft s n at → (ltb at (length s) && eqb (get_or s at 0) comma) ≡ false
    → (names : List Bytes) (rest : Bytes) → NamesFit names → s ≡ line_text (ascii "user" ∷ names) ++ rest
    → (n ≡ length names) × (drop at s ≡ line_feed ∷ rest)
all s n at left none names rest fit e =
    let count = all_read s n at left names rest fit e none in (count, feed_left s n at left names rest fit e count)

pub returns-then-not-starts_with_user : goal.returns-then-not-starts_with_user
returns-then-not-starts_with_user c names rest fit e =
    not_both (user_found c.args.s.now names rest e) (sym c.if-not-starts_with_user.ensures)

pub loop-count-init : goal.loop-count-init
loop-count-init c = (
  names_start c.args.s.now c.args.places.now c.requires.1 (sym c.if-not-starts_with_user.ensures),
  names_left_start c.args.s.now,
)

pub returns-then-count-eq-PERMISSION_LIMIT : goal.returns-then-count-eq-PERMISSION_LIMIT
unfolding permission_limit
returns-then-count-eq-PERMISSION_LIMIT c names rest fit e =
    let below = name_below c.args.s.now c.loop-count.count c.loop-count.at c.loop-count.invariant.1 names rest fit e
    (sym c.loop-count-test.ensures) in
    omega (arith, below, fit.few)

pub returns-in_err-to : goal.returns-in_err-to
returns-in_err-to c =
    rw c.from_residual.ensures
    (λ names rest fit e. read_or_not (name_read c.args.s.now (c.loop-count.at + 1))
    (c.loop-count.at + 1 + length (get_or names c.loop-count.count [])) c.in_err-to.ensures
    (next_name c.args.s.now c.loop-count.count c.loop-count.at c.loop-count.invariant.1 names rest fit e
    (sym c.loop-count-test.ensures)))

pub place_of-requires : goal.place_of-requires
unfolding sheet_limit
place_of-requires c =
    let name = name_at c.args.s.now c.loop-count.at c.in_ok-to.to (sym c.loop-count-test.ensures)
    c.in_ok-to.ensures in
    (omega (arith, c.requires.0, name.forward, name.within), omega (arith, c.requires.0, name.within))

pub bounds-places-count : goal.bounds-places-count
unfolding permission_limit
bounds-places-count c = omega (arith, c.loop-count.invariant.0.few)

pub loop-count-preserved : goal.loop-count-preserved
unfolding sheet_limit permission_limit
loop-count-preserved c =
    let s = c.args.s.now in
    let comma_there = sym c.loop-count-test.ensures in (
      rw (add-one c.loop-count.count, c.place_of.ensures)
          (names_more s c.loop-count.places c.loop-count.count c.loop-count.at c.loop-count.invariant.0
          (omega (arith, c.requires.0)) (omega (arith, c.loop-count.invariant.0.few)) comma_there c.in_ok-to.to
          (name_at s c.loop-count.at c.in_ok-to.to comma_there c.in_ok-to.ensures)),
      rw (add-one c.loop-count.count)
          (names_left_next s c.loop-count.count c.loop-count.at c.in_ok-to.to c.loop-count.invariant.1 comma_there
          c.in_ok-to.ensures),
    )

pub returns-then-count-eq0 : goal.returns-then-count-eq0
returns-then-count-eq0 c names rest fit e =
    omega (
      arith,
      (all c.args.s.now c.loop-count.count c.loop-count.at c.loop-count.invariant.1 (sym c.loop-count-test.ensures)
          names rest fit e).0,
      fit.some_name,
    )

pub returns-then-not-stands_at : goal.returns-then-not-stands_at
returns-then-not-stands_at c names rest fit e =
    not_both
    (byte_found c.args.s.now c.loop-count.at line_feed rest
    (all c.args.s.now c.loop-count.count c.loop-count.at c.loop-count.invariant.1 (sym c.loop-count-test.ensures)
    names rest fit e).1)
    (sym c.if-not-stands_at.ensures)

pub returns : goal.returns
returns c =
    let s = c.args.s.now in
    let at = c.loop-count.at in
    let n = c.loop-count.count in
    record {
      stands = rw (add-one at)
          (first_line_stands s c.loop-count.places n at c.loop-count.invariant.0 (omega arith)
          (sym c.if-not-stands_at.ensures));
      same = λ names rest fit e.
          (let read = all s n at c.loop-count.invariant.1 (sym c.loop-count-test.ensures) names rest fit e in
          (read.0, behind s at (line_feed ∷ []) rest read.1));
    }
