-- `same::same_letter`: bytes that leave another when they are divided by 32 are not the same lowered either.
use Rattle.std.proofs.Common.{◌≡◌, ℕ, ◌%◌, sym, ap, ◌∙◌, ne_eqb}
use Rattle.spec.specs.Text.{lower}
use Rattle.text.specs.Laws.Lowered.{lower_leaves}
use Rattle.text.proofs.same.same_letter.Goals as goal

pub returns-else-letter-other-2 : goal.returns-else-letter-other-2
returns-else-letter-other-2 c =
    let a = c.args.letter in
    let b = c.args.other in
    let lowered_differ : lower a ≡ lower b → ⊥ = λ e. c.if-letter-other-2.false (sym (lower_leaves a)
    ∙ ap (λ (l : ℕ). l % 32) e ∙ lower_leaves b) in
    ne_eqb _ _ c.if-letter-other-2.false ∙ sym (ne_eqb (lower a) (lower b) lowered_differ)
