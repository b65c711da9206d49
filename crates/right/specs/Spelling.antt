-- Names spelled in other case: there are as many, each is equal to the one at its place, and each can stand as a field
-- where that one can. A witness line in other case has a user and a permission as well.
use Rattle.std.specs.Prelude.{ℕ, ◌≡◌, refl, length, get_or}
use Rattle.std.proofs.Common.{arith, sym, ap, ◌∙◌}
use mathlib.Core.List.Memᴰ
use mathlib.Core.List.{List, [], ◌∷◌, map, head-eq_of_cons-eq, tail-eq_of_cons-eq, Memᴰ}
use Rattle.std.proofs.lemmas.List.{length-map}
use Rattle.std.proofs.Math.ListN.{get_or-map}
use Rattle.spec.specs.Text.{Bytes, Line, lowered}
use Rattle.spec.specs.Sheet.{Sheet, Grant, user_name, permission_name}
use Rattle.spec.specs.Book.{witness_line}
use Rattle.lists.specs.EachLaws.{Each}
use Rattle.text.specs.Laws.Lowered.{lowered_length, field_respelled}
use Rattle.right.specs.NameLaws.{GoodName}

-- the names are these names, each in its own case
abbrev pub Spells : List Bytes → List Bytes → Type 0
Spells names others = map lowered names ≡ map lowered others

pub spells_length : (names others : List Bytes) → Spells names others → length names ≡ length others
spells_length names others e = sym (length-map names lowered) ∙ ap length e ∙ length-map others lowered

pub spells_at : (names others : List Bytes) → Spells names others → (i : ℕ)
    → lowered (get_or names i []) ≡ lowered (get_or others i [])
spells_at names others e i =
    sym (get_or-map lowered names i []) ∙ ap (λ (l : List Bytes). get_or l i []) e ∙ get_or-map lowered others i []

pub good_respelled : {name other : Bytes} → lowered name ≡ lowered other → GoodName other → GoodName name
good_respelled {name} {other} e g =
    record {
      some_byte = omega (arith, lowered_length name other e, g.some_byte);
      field = field_respelled e g.field;
    }

pub spells_good : (names others : List Bytes) → Spells names others → Each GoodName others → Each GoodName names
spells_good names others e each name m =
    let r = Memᴰ.of_map lowered others (rw e at (Memᴰ.map lowered m)) in
    good_respelled (sym r.2) (each r.0 r.1)

-- ---- witness lines

-- a line is that of a grant, each of its two names in its own case
pub record SpelledLine (sheet : Sheet) (g : Grant) (line : Line) : Type 0 where
  pub user : Bytes
  pub permission : Bytes
  pub fields : line ≡ user ∷ permission ∷ []
  pub same_user : lowered user ≡ lowered (user_name sheet g.user)
  pub same_permission : lowered permission ≡ lowered (permission_name sheet g.permission)

pub spelled_line : (sheet : Sheet) (g : Grant) (line : Line) → Spells line (witness_line sheet g) → SpelledLine sheet g
    line
spelled_line sheet g [] e = absurd (omega (arith, ap length e))
spelled_line sheet g (user ∷ []) e = absurd (omega (arith, ap length e))
spelled_line sheet g (user ∷ permission ∷ []) e =
    record {
      user = user;
      permission = permission;
      fields = refl;
      same_user = head-eq_of_cons-eq e;
      same_permission = head-eq_of_cons-eq (tail-eq_of_cons-eq e);
    }
spelled_line sheet g (user ∷ permission ∷ more ∷ rest) e = absurd (omega (arith, ap length e))

pub line_spells : {sheet : Sheet} {g : Grant} {line : Line} → SpelledLine sheet g line
    → Spells line (witness_line sheet g)
line_spells l = rw (l.fields, l.same_user, l.same_permission)

-- lines are those of grants
abbrev pub SpellsLines : Sheet → List Grant → List Line → Type 0
SpellsLines sheet grants lines = map (map lowered) lines ≡ map (map lowered) (map (witness_line sheet) grants)

-- each line is that of one of the grants
pub record LineOf (sheet : Sheet) (grants : List Grant) (line : Line) : Type 0 where
  pub grant : Grant
  pub member : Memᴰ grant grants
  pub spelled : SpelledLine sheet grant line

pub line_of : (sheet : Sheet) (grants : List Grant) (lines : List Line) → SpellsLines sheet grants lines
    → Each (LineOf sheet grants) lines
line_of sheet grants lines e line m =
    let r = Memᴰ.of_map (map lowered) (map (witness_line sheet) grants) (rw e at (Memᴰ.map (map lowered) m)) in
    let g = Memᴰ.of_map (witness_line sheet) grants r.1 in
    record {
      grant = g.0;
      member = g.1;
      spelled = spelled_line sheet g.0 line (sym r.2 ∙ ap (map lowered) (sym g.2));
    }
