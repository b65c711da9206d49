-- "Reduction": sweeps over the grants that remove singles and tie dominating grants, and what they leave.
use Rattle.std.specs.Prelude.{◌&&◌, ◌∷◌}
use Rattle.spec.specs.Vocabulary.{ℕ, zero, suc, Bool, not, cond, Option, none, some, List, [], eqb}
use Rattle.spec.specs.Vocabulary.{length, implies, empty, all, first}
use Rattle.spec.specs.Sheet.{Sheet, Grant, same_grant, grants}
use Rattle.spec.specs.Fit.{is_or_fits, without, partners}

-- a removal: a grant removed as single, or a grant tied to another
pub data Removal : Type 0 where
  single : Grant → Removal
  tied : Grant → Grant → Removal

-- what remains, in rising number, and what was removed, the latest first
pub record Reduction : Type 0 where
  pub remaining : List Grant
  pub removed : List Removal

-- it dominates g if g and all remaining that fit g are it or fit it
abbrev pub dominates : Sheet → List Grant → Grant → Grant → Bool
dominates sheet remaining it g = all (λ h. implies (is_or_fits sheet g h) (is_or_fits sheet it h)) remaining

-- the lowest other remaining grant that it dominates
abbrev pub dominated : Sheet → List Grant → Grant → Option Grant
dominated sheet remaining it = first (λ g. not (same_grant it g) && dominates sheet remaining it g) remaining

-- the judgement of one grant
pub data Verdict : Type 0 where
  stays : Verdict
  is_single : Verdict
  is_tied : Grant → Verdict

-- tied where a dominated grant was found
abbrev pub tied_if : Option Grant → Verdict
tied_if none = stays
tied_if (some g) = is_tied g

-- no other remaining grant fits it: single; else it dominates another: tied to the lowest such
abbrev pub verdict : Sheet → List Grant → Grant → Verdict
verdict sheet remaining it =
    let tie : Verdict = tied_if (dominated sheet remaining it) in
    cond (empty (partners sheet remaining it)) is_single tie

-- a removal takes effect at once
abbrev pub carry_out : Verdict → Grant → Reduction → Reduction
carry_out stays it r = r
carry_out is_single it r = record { remaining = without it r.remaining; removed = single it ∷ r.removed }
carry_out (is_tied g) it r = record { remaining = without it r.remaining; removed = tied it g ∷ r.removed }

-- one grant judged against those remaining at that moment
abbrev pub visit : Sheet → Grant → Reduction → Reduction
visit sheet it r = carry_out (verdict sheet r.remaining it) it r

-- the visits of a sweep, in rising number
abbrev pub visits : Sheet → List Grant → Reduction → Reduction
visits sheet [] r = r
visits sheet (it ∷ later) r = visits sheet later (visit sheet it r)

-- one sweep visits all that remain
abbrev pub sweep : Sheet → Reduction → Reduction
sweep sheet r = visits sheet r.remaining r

-- sweeps repeat until one removes nothing, at most as many as asked
abbrev pub sweeps : Sheet → ℕ → Reduction → Reduction
sweeps sheet zero r = r
sweeps sheet (suc more) r =
    let after : Reduction = sweep sheet r in
    let later : Reduction = sweeps sheet more after in
    cond (eqb (length after.remaining) (length r.remaining)) after later

-- all grants remain at first
abbrev pub unreduced : Sheet → Reduction
unreduced sheet = record { remaining = grants sheet; removed = [] }

-- the whole reduction: each sweep but the last removes a grant, so one more than there are grants are enough. The law
-- `sweeps_settle` (minimality, Settling) shows it: another sweep removes nothing
unfoldable pub reduction : Sheet → Reduction
reduction sheet = sweeps sheet (suc (length (grants sheet))) (unreduced sheet)

-- the kernel is what remains
unfoldable pub kernel : Sheet → List Grant
unfolding reduction
kernel sheet = (reduction sheet).remaining

-- k is its size
abbrev pub kernel_size : Sheet → ℕ
kernel_size sheet = length (kernel sheet)

-- the grants removed as single, the latest first
abbrev pub singles_of : List Removal → List Grant
singles_of [] = []
singles_of (single g ∷ earlier) = g ∷ singles_of earlier
singles_of (tied g h ∷ earlier) = singles_of earlier

unfoldable pub singles : Sheet → List Grant
unfolding reduction
singles sheet = singles_of (reduction sheet).removed
