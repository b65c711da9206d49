-- When grants fit. To fit is symmetric, since the two cells it asks for change places; and of two held grants with
-- one user or one permission the cells asked for are their own. So a held grant fits itself, and the grants of one
-- permission or of one user all fit.
use Rattle.std.specs.Prelude.{◌≡◌, refl}
use Rattle.std.proofs.Math.Bool.{So, and_comm}
use Rattle.spec.specs.Sheet.{Sheet, Grant, holds}
use Rattle.spec.specs.Fit.{fits}
use Rattle.bits.specs.Truth.{and_intro, and_left}

-- a grant whose cell says yes
abbrev pub Held : Sheet → Grant → Type 0
Held sheet g = So (holds sheet g.user g.permission)

pub fits_symmetric : (sheet : Sheet) (g h : Grant) → fits sheet g h ≡ fits sheet h g
fits_symmetric sheet g h = and_comm (holds sheet g.user h.permission) (holds sheet h.user g.permission)

-- the two cells
pub fits_intro : (sheet : Sheet) (g h : Grant) → So (holds sheet g.user h.permission)
    → So (holds sheet h.user g.permission)
    → So (fits sheet g h)
fits_intro sheet g h = and_intro (holds sheet g.user h.permission) (holds sheet h.user g.permission)

pub fits_first : (sheet : Sheet) (g h : Grant) → So (fits sheet g h) → So (holds sheet g.user h.permission)
fits_first sheet g h = and_left (holds sheet g.user h.permission) (holds sheet h.user g.permission)

pub one_permission_fits : (sheet : Sheet) (g h : Grant) → Held sheet g → Held sheet h → g.permission ≡ h.permission
    → So (fits sheet g h)
one_permission_fits sheet g h p q e = fits_intro sheet g h (rw e at p) (rw e q)

pub one_user_fits : (sheet : Sheet) (g h : Grant) → Held sheet g → Held sheet h → g.user ≡ h.user
    → So (fits sheet g h)
one_user_fits sheet g h p q e = fits_intro sheet g h (rw e q) (rw e at p)

pub fits_itself : (sheet : Sheet) (g : Grant) → Held sheet g → So (fits sheet g g)
fits_itself sheet g p = one_user_fits sheet g g p p refl
