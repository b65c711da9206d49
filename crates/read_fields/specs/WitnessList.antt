-- The witness as the code keeps it: the number of its lines, and the grants of the first of them, as many as there
-- can be roles.
use Rattle.std.specs.Prelude.{ℕ, zero, suc, ◌+◌, ◌≤◌, ◌<◌, ◌≡◌, refl, cond, List, [], ◌∷◌, ◌++◌, ltb, length, get_or, set, replicate}
use Rattle.std.proofs.Common.{arith, sym, ◌∙◌, ⊎_elim, lt-ltb, le-ltb, length-append, length-set, get_or-set_same, get_or-set_other}
use Rattle.std.proofs.lemmas.List.{length-replicate, get_or_at}
use Rattle.std.proofs.Math.ListN.{get_or-append}
use Rattle.spec.specs.Limits.{role_limit}
use Rattle.spec.specs.Sheet.{Grant}
use Rattle.spec.specs.Cover.{grant_at}
use Rattle.bits.specs.Laws.Below.{below_or_from}
use Rattle.read_fields.specs.declared.witness_block.WitnessLine.{WitnessLine}
use Rattle.read_fields.specs.declared.witness_block.Witness.{Witness}

-- the grant of a line
abbrev pub named_grant : WitnessLine → Grant
named_grant line = record { user = line.user.0; permission = line.permission.0 }

abbrev pub no_line : WitnessLine
no_line = record { user = record { 0 = 0 }; permission = record { 0 = 0 } }

-- no line
abbrev pub no_witness : Witness
no_witness = record { lines = 0; first = replicate role_limit no_line }

-- one line more, which is kept where there is room
abbrev pub with_line : Witness → WitnessLine → Witness
with_line w line =
    record {
      lines = w.lines + 1;
      first = cond (ltb w.lines role_limit) (set w.first w.lines line)
          w.first;
    }

-- these are the grants of the lines, and no place past them names one
pub record Collects (w : Witness) (grants : List Grant) : Type 0 where
  pub counted : w.lines ≡ length grants
  pub room : length w.first ≡ role_limit
  pub named : (i : ℕ) → i < length grants → i < role_limit → named_grant (get_or w.first i no_line) ≡ grant_at grants i
  pub past : (i : ℕ) → length grants ≤ i → get_or w.first i no_line ≡ no_line

pub collects_none : Collects no_witness []
collects_none =
    record {
      counted = refl;
      room = length-replicate role_limit no_line;
      named = λ i h. absurd (omega arith);
      past = λ i h. none role_limit i;
    }
  where
    none : (n i : ℕ) → get_or (replicate n no_line) i no_line ≡ no_line
    none zero i = refl
    none (suc n) zero = refl
    none (suc n) (suc i) = none n i

pub collects_more : {w : Witness} {grants : List Grant} (line : WitnessLine) → Collects w grants
    → Collects (with_line w line) (grants ++ named_grant line ∷ [])
collects_more {w} {grants} line c = ⊎_elim kept dropped (below_or_from w.lines role_limit)
  where
    longer : length (grants ++ named_grant line ∷ []) ≡ length grants + 1
    longer = length-append grants (named_grant line ∷ [])

    before : (i : ℕ) → i < length grants → grant_at (grants ++ named_grant line ∷ []) i ≡ grant_at grants i
    before i h = get_or-append grants (named_grant line ∷ []) (record { user = 0; permission = 0 }) i h

    last : (i : ℕ) → length grants ≡ i → grant_at (grants ++ named_grant line ∷ []) i ≡ named_grant line
    last i e = get_or_at grants (named_grant line) [] (record { user = 0; permission = 0 }) i e

    kept : w.lines < role_limit → Collects (with_line w line) (grants ++ named_grant line ∷ [])
    kept h =
        let at = c.counted in
        rw (lt-ltb w.lines role_limit h)
        (record {
          counted = rw longer (omega arith);
          room = length-set w.first w.lines line ∙ c.room;
          named = λ i l k. ⊎_elim
              (λ (earlier : i < length grants).
              rw (
                get_or-set_other w.first w.lines i line no_line (λ (e : i ≡ w.lines). omega arith),
                before i earlier,
              ) (c.named i earlier k))
              (λ (late : length grants ≤ i).
              (let here : i ≡ w.lines = omega (arith, longer) in
              rw (
                here,
                get_or-set_same w.first w.lines line no_line (let r = c.room in omega arith),
                last w.lines (sym at),
              )))
              (below_or_from i (length grants));
          past = λ i l.
              (let m : length grants < i = omega (arith, longer) in
              get_or-set_other w.first w.lines i line no_line (λ (e : i ≡ w.lines). omega arith)
              ∙ c.past i (omega arith));
        })

    dropped : role_limit ≤ w.lines → Collects (with_line w line) (grants ++ named_grant line ∷ [])
    dropped h =
        let at = c.counted in
        rw (le-ltb w.lines role_limit h)
        (record {
          counted = rw longer (omega arith);
          room = c.room;
          named = λ i l k. (let earlier : i < length grants = omega arith in rw (before i earlier)
              (c.named i earlier k));
          past = λ i l. c.past i (omega (arith, longer));
        })
