-- "Witness": the witness (independent set of grants), of which no two fit.
use Rattle.std.specs.Prelude.{◌||◌, ◌∷◌}
use Rattle.spec.specs.Vocabulary.{ℕ, zero, suc, not, Option, List, [], length, filter, least, if_found}
use Rattle.spec.specs.Sheet.{Sheet, Grant, grants}
use Rattle.spec.specs.Fit.{is_or_fits, among, partners}
use Rattle.spec.specs.Reduction.{kernel, kernel_size, singles}

-- the one with fewest remaining fitting partners, lowest number on a tie
abbrev pub fewest_partners : Sheet → List Grant → Option Grant
fewest_partners sheet remaining = least (λ g. length (partners sheet remaining g)) remaining

-- what is left for further choice once g is taken: neither g nor its partners
abbrev pub left_after : Sheet → Grant → List Grant → List Grant
left_after sheet g remaining = filter (λ h. not (is_or_fits sheet g h)) remaining

-- the grants taken one after the other, at most as many as asked
abbrev pub taken : Sheet → ℕ → List Grant → List Grant
taken sheet zero remaining = []
taken sheet (suc more) remaining =
    if_found (fewest_partners sheet remaining) (λ g. g ∷ taken sheet more (left_after sheet g remaining))

-- from the kernel, repeatedly: each choice takes a grant, so as many as the kernel has are enough. The law
-- `chosen_meets` (minimality, Chosen) shows it: each grant of the kernel is taken or fits one that is, so nothing is
-- left for further choice
unfoldable pub chosen : Sheet → List Grant
unfolding kernel
chosen sheet = taken sheet (kernel_size sheet) (kernel sheet)

-- the grants taken and all singles, in grant order
unfoldable pub witness : Sheet → List Grant
unfolding chosen singles
witness sheet = filter (λ g. among (chosen sheet) g || among (singles sheet) g) (grants sheet)

-- w is their count
abbrev pub witness_size : Sheet → ℕ
witness_size sheet = length (witness sheet)
