-- "Fitting": grants that fit (adjacent in the edge dual).
use Rattle.std.specs.Prelude.{◌&&◌, ◌||◌}
use Rattle.spec.specs.Vocabulary.{Bool, not, List, any, filter}
use Rattle.spec.specs.Sheet.{Sheet, Grant, holds, same_grant}

-- grants (u, p) and (v, q) fit if u holds q and v holds p in the whole sheet
abbrev pub fits : Sheet → Grant → Grant → Bool
fits sheet g h = holds sheet g.user h.permission && holds sheet h.user g.permission

-- h is g or fits g
abbrev pub is_or_fits : Sheet → Grant → Grant → Bool
is_or_fits sheet g h = same_grant g h || fits sheet g h

-- the grant stands in the list
abbrev pub among : List Grant → Grant → Bool
among grants g = any (same_grant g) grants

-- the list without a grant
abbrev pub without : Grant → List Grant → List Grant
without g grants = filter (λ h. not (same_grant g h)) grants

-- the others of the list that fit a grant
abbrev pub partners : Sheet → List Grant → Grant → List Grant
partners sheet grants g = filter (λ h. not (same_grant g h) && fits sheet g h) grants
