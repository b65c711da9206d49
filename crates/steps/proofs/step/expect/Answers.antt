-- `step::expect`: what the text goes on with starts with the word, or it does not.
use Rattle.std.proofs.Common.{ℕ, List, ◌++◌, length, ap, ◌∙◌, arith, length-drop, drop-drop}
use Rattle.std.proofs.lemmas.Bool.Decides.{Decides-eqb}
use Rattle.std.proofs.lemmas.List.{take_rest}
use Rattle.std.proofs.lemmas.Slice.Eq.{starts_is}
use Rattle.steps.proofs.step.expect.Goals as goal

pub returns-then-starts_with : goal.returns-then-starts_with
returns-then-starts_with c =
    let text = c.args.text.now in
    let word = c.args.word.now in
    let starts = rw (take_rest text c.args.at) at c.starts_with.ensures.value in
    record {
      forward = omega arith;
      within = omega (
        arith,
        rw (take_rest text c.args.at) at (c.starts_with.ensures.bound c.if-starts_with.true),
        length-drop c.args.at text,
      );
      reads = (starts_is Decides-eqb _ word _ starts).0 c.if-starts_with.true ∙ ap (λ (l : List ℕ). word ++ l)
          (drop-drop (length word) c.args.at text);
    }

pub returns-else-starts_with : goal.returns-else-starts_with
returns-else-starts_with c =
    let starts = rw (take_rest c.args.text.now c.args.at) at c.starts_with.ensures.value in
    record {
      misses = λ rest e. (let t = (starts_is Decides-eqb _ c.args.word.now _ starts).1 rest e in cc);
    }
