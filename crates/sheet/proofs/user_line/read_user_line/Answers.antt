-- `user_line::read_user_line`: where all three tests pass, the name, the cells and the line feed stand one behind the
-- other; and where such a line stands there, they pass.
use Rattle.std.proofs.Common.{ℕ, ◌+◌, ◌≡◌, Bool, length, sym}
use Rattle.std.specs.Prelude.{Some}
use Rattle.spec.specs.Text.{Bytes}
use Rattle.bits.specs.Truth.{not_both}
use Rattle.sheet.specs.Spelled.{name_read}
use Rattle.sheet.specs.UserLine.{Spells}
use Rattle.sheet.specs.Laws.Spelled.{read_or_not, name_stands}
use Rattle.sheet.specs.Laws.UserLineFound.{line_name_found, cells_found, line_feed_found, cells_end}
use Rattle.sheet.specs.Laws.UserLineFound.{line_stands}
use Rattle.sheet.proofs.user_line.read_user_line.Goals as goal

-- a name that is read ends where that of any such line does
ends : (text : Bytes) (at width to : ℕ) → Some to ≡ name_read text at → (name : Bytes) (ones : ℕ → Bool)
    (rest : Bytes) → Spells text at width name ones rest → to ≡ at + length name
ends text at width to named name ones rest line =
    let found = line_name_found text at width name ones rest line in
    cc

pub returns-in_err-to : goal.returns-in_err-to
returns-in_err-to c =
    rw c.from_residual.ensures
    (λ name ones rest line. read_or_not (name_read c.args.s.now c.args.at) (c.args.at + length name)
    c.in_err-to.ensures (line_name_found c.args.s.now c.args.at c.args.width name ones rest line))

pub read_cells-requires : goal.read_cells-requires
read_cells-requires c = (
  (name_stands c.args.s.now c.args.at c.in_ok-to.to c.requires.0 c.in_ok-to.ensures).within,
  c.requires.1,
  c.requires.2,
  c.requires.3,
)

pub returns-in_err-end : goal.returns-in_err-end
returns-in_err-end c =
    rw c.from_residual-in_err-end.ensures
    (λ name ones rest line. cells_found c.args.s.now c.args.at c.args.width name ones rest line c.in_ok-to.to
    (ends c.args.s.now c.args.at c.args.width c.in_ok-to.to c.in_ok-to.ensures name ones rest line)
    (c.in_err-end.ensures.0 ones))

pub returns-then-not-stands_at : goal.returns-then-not-stands_at
returns-then-not-stands_at c name ones rest line =
    not_both
    (rw (
      cells_end c.in_ok-end.ensures,
      ends c.args.s.now c.args.at c.args.width c.in_ok-to.to c.in_ok-to.ensures name ones rest line,
    ) (line_feed_found c.args.s.now c.args.at c.args.width name ones rest line)) (sym c.if-not-stands_at.ensures)

pub returns : goal.returns
returns c = line_stands c.requires.0 c.in_ok-to.ensures c.in_ok-end.ensures (sym c.if-not-stands_at.ensures)
