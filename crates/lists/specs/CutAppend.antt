-- Two lists one after the other, cut at separators: where the first is empty or ends in a separator, no part reaches
-- from one into the other. An induction on the first list: what is put before some part stays before all that follows
-- it. Assumes nothing.
use Rattle.std.specs.Prelude.{◌≤◌, ◌≡◌, refl, Bool, true, false, List, [], ◌∷◌, ◌++◌, length}
use Rattle.std.proofs.Common.{not-suc-le-zero, ap, ◌∙◌}
use Rattle.std.proofs.Math.Bool.{So}
use Rattle.spec.specs.Vocabulary.{cut, ended_by}
use Rattle.lists.specs.CutLaws.{closed, ended_some}

module _ {A : Type 0} where
  cut_append : (t : Bool) (a : A) (parts more : List (List A)) → 1 ≤ length parts
      → cut t a (parts ++ more) ≡ cut t a parts ++ more
  cut_append t a [] more some = absurd (not-suc-le-zero some)
  cut_append true a (part ∷ later) more some = refl
  cut_append false a (part ∷ later) more some = refl

  pub ended_append : (separator : A → Bool) (l m : List A) → So (closed separator l)
      → ended_by separator (l ++ m) ≡ ended_by separator l ++ ended_by separator m
  ended_append separator [] m e = refl
  ended_append separator (a ∷ []) m e = rw e
  ended_append separator (a ∷ next ∷ rest) m e =
      ap (cut (separator a) a) (ended_append separator (next ∷ rest) m e)
      ∙ cut_append (separator a) a (ended_by separator (next ∷ rest)) (ended_by separator m)
      (ended_some separator next rest)
