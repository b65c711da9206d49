-- `lines::put_digest_line`: a number of 32 bits is spelled in eight digits, which are the last word.
use borrow.Author.Rules.{rules}
use native.Mathlib.Omega.{arith}
use mathlib.Core.List.{List, [], ◌∷◌, ◌++◌, map}
use mathlib.Core.Path.{◌≡◌, sym, ap, ◌∙◌}
use lib.ListN.{take, length}
use Rattle.spec.specs.Text.{Bytes}
use Rattle.spec.specs.Decimal.{decimal}
use Rattle.io.specs.Digits.{last_digits}
use Rattle.text.specs.Written.{written_as}
use Rattle.answer_lines.specs.Answers.{answer_line, digest_digits, digest_word}
use Rattle.answer_lines.specs.Laws.AnswerParts.{last_word}
use Rattle.answer_lines.specs.Laws.HexWidth.{hex_width}
use Rattle.answer_lines.proofs.lines.put_digest_line.Statement.{statement}
use Rattle.answer_lines.proofs.lines.put_digest_line.Tie as tie

abbrev start : tie.After-hex-count → tie.Start
start c = c.before.before.before.before.before

-- the digits as they were spelled
abbrev spelled : tie.After-hex-count → Bytes
spelled c = take c.hex-count.result c.hex-count.new.out

eight : (c : tie.After-hex-count) → c.hex-count.result ≡ digest_digits
eight c = hex_width (start c).args.sum c.hex-count.result (start c).ranges.sum.fits c.hex-count.ensures.1.0

spelled_length : (c : tie.After-hex-count) → length (spelled c) ≡ digest_digits
spelled_length c = sym c.hex-count.ensures.0.1 ∙ eight c

said : (c : tie.After-hex-count) → spelled c ≡ digest_word (start c).args.sum
said c = c.hex-count.ensures.1.1.0 ∙ ap (λ k. last_digits 16 k (start c).args.sum) (eight c)

put_line_requires : tie.Need-put_line-requires
put_line_requires c κs = omega (arith, (start c.before.before).requires, spelled_length c.before.before)

returns : tie.Need-returns
returns c =
    let put = c.before.before in
    let hex = put.before.before.before in
    let args = (start hex).args in
    written_as (ap (λ (words : List Bytes). answer_line (args.word.now ∷ map decimal args.numbers.now ++ words))
    (sym (last_word (spelled hex) (rw (spelled_length hex) (omega arith))) ∙ ap (λ (w : Bytes). w ∷ []) (said hex)))
    put.put_line.ensures

pub put_digest_line_spec : {M : Type 1} → statement M
put_digest_line_spec =
    tie.close (tie.spec (λ c κs. search rules) (λ c. search rules) (λ c. search rules) put_line_requires
    (λ c. search rules) returns)
