-- A verdict carried out: a grant that stays changes nothing, a single is removed with itself as its partner, and a tied
-- grant with the one that it is tied to. Assumes nothing.
use Rattle.std.specs.Prelude.{ℕ, ◌≡◌}
use Rattle.verdict.specs.declared.judgement.Verdict.{Verdict}
use Rattle.verdict.specs.declared.judgement.Verdict.TheVariants.{Stays, Single, Tied}
use Rattle.verdict.specs.ReductionWork.{Work, Removable, Removed}

-- what the verdict asks for can be done
abbrev pub Carriable : ℕ → Verdict → Work → Type 0
Carriable it Stays work = Unit {0}
Carriable it Single work = Removable it it work
Carriable it (Tied other) work = Removable it other.0 work

-- it was done
abbrev pub CarriedOut : ℕ → Verdict → Work → Work → Type 0
CarriedOut it Stays before after = after ≡ before
CarriedOut it Single before after = Removed it it before after
CarriedOut it (Tied other) before after = Removed it other.0 before after
