-- `same::same_name`: names of the same length are equal where each two letters at one place are.
use Rattle.std.proofs.Common.{rules, ◌≡◌, ◌∙◌, eqb, ℕ, length, refl, arith, [], ◌∷◌}
use borrow.Author.Tests.{tests}
use Rattle.std.specs.List.{list_all, zip}
use Rattle.std.proofs.lemmas.Iterator.{YieldsList-from_slice, YieldsList-from_zip}
use Rattle.std.proofs.lemmas.Iterator.Search.{all_from_yields_List}
use Rattle.spec.specs.Text.{Bytes, lower, same_name}
use Rattle.text.proofs.same.same_name.Goals as goal

letters : (name other : Bytes) → length name ≡ length other
    → list_all (λ (p : ℕ × ℕ). eqb (lower p.0) (lower p.1)) (zip name other) ≡ same_name name other
letters [] [] e = refl
letters [] (b ∷ others) e = absurd (omega (arith, e))
letters (a ∷ rest) [] e = absurd (omega (arith, e))
letters (a ∷ rest) (b ∷ others) e = rw (letters rest others (omega (arith, e)))

pub returns-then-name-other : goal.returns-then-name-other
returns-then-name-other c =
    all_from_yields_List (λ (p : ℕ × ℕ). eqb (lower p.0) (lower p.1)) c.all.new.self _ _ c.all.ensures.ran
    (YieldsList-from_zip (YieldsList-from_slice c.args.name.now (cc)) (YieldsList-from_slice c.args.other.now (cc)))
    (λ x b q k. search (rules, tests)) ∙ letters _ _ c.if-name-other.true
