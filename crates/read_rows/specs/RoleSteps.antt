-- Reading the lines of the roles, in order and up to the empty line. A line begins with `R`, so an empty line ends
-- the roles, and the number of roles and what follows them are known.
use Rattle.std.specs.Prelude.{ℕ, ◌≤◌, ◌<◌, ◌≡◌, refl, ◌⊎◌, Bool, false, length, drop, Option, Some, None}
use Prim.Native.Char.{code}
use Rattle.std.proofs.Common.{arith, sym, ◌∙◌, ⊎_elim}
use mathlib.Core.List.{List, ◌∷◌, ◌++◌, map, append_assoc, head-eq_of_cons-eq, tail-eq_of_cons-eq}
use Rattle.spec.specs.Limits.{role_limit}
use Rattle.spec.specs.Text.{Bytes, line_feed, lowered}
use Rattle.spec.specs.Sheet.{Sheet, permission_count}
use Rattle.spec.specs.Book.{role_name}
use Rattle.steps.specs.Laws.Aligned.{Aligned, Begins, listed_ended}
use Rattle.cell_rows.specs.Rows.{row_bits, cell}
use Rattle.right.specs.WordLaws.{role_name_parts}
use Rattle.right.specs.Spelling.{spells_length}
use Rattle.text.specs.Line.{line_end}
use Rattle.read_rows.specs.declared.roles_block.RolesRead.{RolesRead}
use Rattle.steps.specs.Stands.{Stands}
use Rattle.steps.specs.Steps.{Misses}
use Rattle.steps.specs.Laws.Stands.{stands_then}
use Rattle.steps.specs.Laws.Step.{misses_first, misses_after}
use Rattle.form.specs.Pieces.{named_text, named_texts, roles_heading, roles_part}
use Rattle.form.specs.LineSteps.{named_aligned}
use Rattle.cells_read.specs.RowGrown.{Blank}
use Rattle.form.specs.RowSteps.{AllBlank, LinesBelow}
use Rattle.read_rows.specs.HeadingSteps.{HeadingAt, NoHeading, headings_aligned}

-- the lines of so many roles
abbrev pub role_texts : ℕ → (ℕ → ℕ → Bool) → ℕ → Bytes
role_texts permissions gives count = named_texts role_name permissions gives count

-- the lines of roles were read into rows of words, which have nothing else
pub record RolesAt (text : Bytes) (at permissions : ℕ) (words : List ℕ) (count next : ℕ) : Type 0 where
  pub few : count ≤ role_limit
  pub reads : Stands text at (role_texts permissions (cell words) count ++ line_end) next
  pub beyond : (r p : ℕ) → r < count → permissions ≤ p → p < row_bits → cell words r p ≡ false
  pub blank : (r : ℕ) → count ≤ r → Blank words r

-- no lines of roles stand at a place
abbrev pub NoRoles : Bytes → ℕ → ℕ → Type 0
NoRoles text at permissions =
    (count : ℕ) (gives : ℕ → ℕ → Bool) → count ≤ role_limit → Misses text at (role_texts permissions gives count ++
    line_end)

abbrev pub RoleLinesRead : Bytes → ℕ → ℕ → List ℕ → Option RolesRead → Type 0
RoleLinesRead text at permissions words (Some read) = RolesAt text at permissions words read.roles read.next
RoleLinesRead text at permissions words None = NoRoles text at permissions

-- block 2 was read into rows of words, which have nothing else; its permissions are the sheet's in whatever case
pub record RolesPart (sheet : Sheet) (text : Bytes) (at : ℕ) (words : List ℕ) (count next : ℕ) : Type 0 where
  pub few : count ≤ role_limit
  pub names : List Bytes
  pub same : map lowered names ≡ map lowered sheet.permissions
  pub reads : Stands text at (roles_part names count (cell words)) next
  pub beyond : (r p : ℕ) → r < count → permission_count sheet ≤ p → p < row_bits → cell words r p ≡ false
  pub blank : (r : ℕ) → count ≤ r → Blank words r

-- no block 2 stands at a place
abbrev pub NoRolesPart : Sheet → Bytes → ℕ → Type 0
NoRolesPart sheet text at =
    (names : List Bytes) → map lowered names ≡ map lowered sheet.permissions → (count : ℕ) (gives : ℕ → ℕ → Bool)
    → count ≤ role_limit → Misses text at (roles_part names count gives)

-- a step over block 2 and the empty line behind it; where there is none, the rows have nothing
abbrev pub RolesReads : Sheet → Bytes → ℕ → List ℕ → Option RolesRead → Type 0
RolesReads sheet text at words (Some read) = RolesPart sheet text at words read.roles read.next
RolesReads sheet text at words None = NoRolesPart sheet text at × AllBlank words

-- ---- where the lines end

-- a line of a role is not empty
role_begins : (permissions : ℕ) (gives : ℕ → ℕ → Bool) (r : ℕ) (l m : Bytes)
    → named_text (role_name r) permissions (gives r) ++ l ≡ line_feed ∷ m → ⊥
role_begins permissions gives r l m e = clash (head-eq_of_cons-eq (rw (role_name_parts r) at e))
  where
    clash : code "R" ≡ line_feed → ⊥
    clash same = omega arith

-- two lines of one role
role_aligned : (permissions : ℕ) (f g : ℕ → ℕ → Bool) (i : ℕ)
    → Aligned (named_text (role_name i) permissions (f i)) (named_text (role_name i) permissions (g i))
role_aligned permissions f g i = named_aligned (role_name i) (role_name i) refl permissions (f i) (g i)

-- behind the lines of the roles below r the next line follows, or the empty line
pub roles_follow : {text : Bytes} {at : ℕ} (permissions : ℕ) (f g : ℕ → ℕ → Bool) (r count next : ℕ) (rest : Bytes)
    → Stands text at (role_texts permissions f r) next → drop at text ≡ (role_texts permissions g count ++ line_end) ++
    rest
    → ((r < count) × Begins (named_text (role_name r) permissions (g r)) (drop next text)) ⊎ ((r ≡ count)
    × (drop next text ≡ line_feed ∷ rest))
roles_follow {text} {at} permissions f g r count next rest p e =
    listed_ended line_feed r count (λ i. named_text (role_name i) permissions (f i))
    (λ i. named_text (role_name i) permissions (g i))
    (λ i h. role_aligned permissions f g i) (λ i h. role_begins permissions f i) (drop next text) rest
    (sym p.reads ∙ e ∙ append_assoc (role_texts permissions g count) line_end rest)

pub roles_end : {text : Bytes} {at permissions r next last : ℕ} {words : List ℕ} → r ≤ role_limit
    → LinesBelow text at role_name permissions words r next
    → Stands text next line_end last → RolesAt text at permissions words r last
roles_end h b p = record { few = h; reads = stands_then b.reads p; beyond = b.beyond; blank = b.blank }

-- no role more is allowed, and none ends here
pub roles_full : {text : Bytes} {at permissions r next : ℕ} {words : List ℕ} → LinesBelow text at role_name
    permissions words r next
    → role_limit ≤ r → Misses text next line_end → NoRoles text at permissions
roles_full {text} {at} {permissions} {r} {next} {words} b h m count gives few =
    record {
      misses = λ rest e. ⊎_elim (λ n. omega (arith, n.0)) (λ n. m.misses rest n.1)
          (roles_follow permissions (cell words) gives r count next rest b.reads e);
    }

-- the line of no role stands here, and none ends here
pub roles_off : {text : Bytes} {at permissions r next : ℕ} {words : List ℕ} → LinesBelow text at role_name permissions
    words r next
    → Misses text next line_end → ((cells : ℕ → Bool) → Misses text next (named_text (role_name r) permissions cells))
    → NoRoles text at permissions
roles_off {text} {at} {permissions} {r} {next} {words} b m off count gives few =
    record {
      misses = λ rest e. ⊎_elim (λ n. (off (gives r)).misses n.1.more n.1.there) (λ n. m.misses rest n.1)
          (roles_follow permissions (cell words) gives r count next rest b.reads e);
    }

-- two readings of the roles have as many, and the same follows
pub roles_once : (permissions : ℕ) (f g : ℕ → ℕ → Bool) (r count : ℕ) (l m : Bytes)
    → (role_texts permissions f r ++ line_end) ++ l ≡ (role_texts permissions g count ++ line_end) ++ m → (r ≡ count)
    × (l ≡ m)
roles_once permissions f g r count l m e =
    ⊎_elim (λ n. absurd (role_begins permissions g r n.1.more l (sym n.1.there)))
    (λ n. (n.0, tail-eq_of_cons-eq n.1))
    (listed_ended line_feed r count (λ i. named_text (role_name i) permissions (f i))
    (λ i. named_text (role_name i) permissions (g i))
    (λ i h. role_aligned permissions f g i) (λ i h. role_begins permissions f i) (line_feed ∷ l) m
    (sym (append_assoc (role_texts permissions f r) line_end l) ∙ e ∙ append_assoc (role_texts permissions g count)
    line_end m))

-- ---- block 2

pub no_roles_heading : (sheet : Sheet) {text : Bytes} {at : ℕ} → NoHeading sheet text at → NoRolesPart sheet text at
no_roles_heading sheet m names same count gives few =
    misses_first (role_texts (length names) gives count ++ line_end) (m names same)

module _ (sheet : Sheet) {text : Bytes} {at mid : ℕ} (heading : HeadingAt sheet text at mid) where
  pub heading_then_roles : {words : List ℕ} {count next : ℕ}
      → RolesAt text mid (permission_count sheet) words count next → RolesPart sheet text at words count next
  heading_then_roles p =
      record {
        few = p.few;
        names = heading.names;
        same = heading.same;
        reads = stands_then heading.reads (rw (← spells_length heading.names sheet.permissions
            heading.same) at p.reads);
        beyond = p.beyond;
        blank = p.blank;
      }

  pub no_role_lines : NoRoles text mid (permission_count sheet) → NoRolesPart sheet text at
  no_role_lines m names same count gives few =
      misses_after (role_texts (length names) gives count ++ line_end) heading.reads
      (headings_aligned heading.names names (heading.same ∙ sym same))
      (rw (spells_length names sheet.permissions same) (m count gives few))

-- what follows block 2, and how many roles it has, are known, however the permissions are spelled
pub roles_part_once : (names others : List Bytes) → map lowered names ≡ map lowered others → (f g : ℕ → ℕ → Bool)
    (r count : ℕ) (l m : Bytes)
    → roles_part names r f ++ l ≡ roles_part others count g ++ m → (r ≡ count) × (l ≡ m)
roles_part_once names others same f g r count l m e =
    roles_once (length others) f g r count l m
    (rw (spells_length names others same) at ((headings_aligned names others same).rest
    ((role_texts (length names) f r ++ line_end) ++ l) ((role_texts (length others) g count ++ line_end) ++ m)
    (sym (append_assoc (roles_heading names) (role_texts (length names) f r ++ line_end) l)
    ∙ e
    ∙ append_assoc (roles_heading others) (role_texts (length others) g count ++ line_end) m)))
