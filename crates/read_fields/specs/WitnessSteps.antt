-- Reading the witness lines up to the end of the book. A line is not empty and is followed by the same however it is
-- read, so the lines of a text are known, and there are no more of them than bytes.
use Rattle.std.specs.Prelude.{ℕ, ◌≤◌, ◌<◌, ◌≡◌, refl, List, [], ◌∷◌, ◌++◌, map, length, drop, Option, Some, None}
use Rattle.std.proofs.Common.{arith, sym, ap, ◌∙◌, append_assoc, append-nil, ⊎_elim, length-append, length-drop, drop_of_length-le}
use mathlib.Core.List.Memᴰ
use Rattle.std.proofs.lemmas.List.{map-append, length-map}
use Rattle.spec.specs.Vocabulary.{joined}
use Rattle.spec.specs.Text.{ascii, Bytes, Line, comma, line_feed, lowered, line_text}
use Rattle.spec.specs.Sheet.{Sheet, Grant}
use Rattle.spec.specs.Book.{witness_line}
use Rattle.lists.specs.EachLaws.{Each, each_none}
use Rattle.rules.specs.AcceptedFacts.{Lawful}
use Rattle.read_fields.specs.declared.witness_block.WitnessLine.{WitnessLine}
use Rattle.read_fields.specs.declared.witness_block.Witness.{Witness}
use Rattle.steps.specs.Stands.{Stands}
use Rattle.steps.specs.Steps.{Misses}
use Rattle.steps.specs.Laws.Stands.{stands_nothing, stands_then}
use Rattle.steps.specs.Laws.Step.{stands_rest, stands_place}
use Rattle.form.specs.Pieces.{witness_texts, witness_part}
use Rattle.right.specs.Spelling.{SpelledLine, line_spells, SpellsLines, line_of}
use Rattle.read_fields.specs.WitnessList.{named_grant, no_witness, with_line, Collects, collects_none}
use Rattle.read_fields.specs.WitnessList.{collects_more}
use Rattle.read_fields.specs.WitnessLineSteps.{Known, WitnessAt, NoWitness, lines_aligned}

-- ---- what was read

-- the witness of a text from a place to its end, its names spelled in some case
pub record WitnessesAt (sheet : Sheet) (bytes : Bytes) (w : Witness) : Type 0 where
  pub grants : List Grant
  pub known : Each (Known sheet) grants
  pub collects : Collects w grants
  pub lines : List Line
  pub same : SpellsLines sheet grants lines
  pub there : bytes ≡ witness_texts lines

-- it is no witness, in whatever case names are spelled
pub record NoWitnesses (sheet : Sheet) (bytes : Bytes) : Type 0 where
  pub none : (grants : List Grant) → Each (Known sheet) grants → (lines : List Line) → SpellsLines sheet grants lines
      → bytes ≡ witness_texts lines → ⊥

abbrev pub WitnessesIn : Sheet → Bytes → Option Witness → Type 0
WitnessesIn sheet bytes (Some w) = WitnessesAt sheet bytes w
WitnessesIn sheet bytes None = NoWitnesses sheet bytes

-- reading witness lines to the end
abbrev pub WitnessLinesRead : Sheet → Bytes → ℕ → Option Witness → Type 0
WitnessLinesRead sheet text at r = WitnessesIn sheet (drop at text) r

-- reading block 4 to the end
pub record WitnessPart (sheet : Sheet) (text : Bytes) (at : ℕ) (w : Witness) : Type 0 where
  pub grants : List Grant
  pub known : Each (Known sheet) grants
  pub collects : Collects w grants
  pub lines : List Line
  pub same : SpellsLines sheet grants lines
  pub there : drop at text ≡ witness_part lines

pub record NoWitnessPart (sheet : Sheet) (text : Bytes) (at : ℕ) : Type 0 where
  pub none : (grants : List Grant) → Each (Known sheet) grants → (lines : List Line) → SpellsLines sheet grants lines
      → drop at text ≡ witness_part lines → ⊥

abbrev pub WitnessPartReads : Sheet → Bytes → ℕ → Option Witness → Type 0
WitnessPartReads sheet text at (Some w) = WitnessPart sheet text at w
WitnessPartReads sheet text at None = NoWitnessPart sheet text at

-- ---- lines one after the other

-- a line is not empty
pub line_some : (line : Line) → 1 ≤ length (line_text line)
line_some line = omega (arith, length-append (joined comma line) (line_feed ∷ []))

-- there are no more lines than bytes
lines_few : (lines : List Line) → length lines ≤ length (witness_texts lines)
lines_few [] = omega arith
lines_few (line ∷ lines) =
    omega (arith, line_some line, lines_few lines, length-append (line_text line) (witness_texts lines))

-- nor grants of lines
pub grants_few : (sheet : Sheet) (grants : List Grant) (lines : List Line) → SpellsLines sheet grants lines
    → length grants ≤ length (witness_texts lines)
grants_few sheet grants lines same =
    omega (
      arith,
      lines_few lines,
      ap length same,
      length-map lines (map lowered),
      length-map (map (witness_line sheet) grants) (map lowered),
      length-map grants (witness_line sheet),
    )

-- one line more
lines_more : (lines : List Line) (line : Line) → witness_texts (lines ++ line ∷ []) ≡ witness_texts lines ++ line_text
    line
lines_more [] line = append-nil (line_text line)
lines_more (first ∷ lines) line =
    ap (λ (l : Bytes). line_text first ++ l) (lines_more lines line)
    ∙ sym (append_assoc (line_text first) (witness_texts lines) (line_text line))

same_more : (sheet : Sheet) (grants : List Grant) (lines : List Line) (g : Grant) (line : Line)
    → SpellsLines sheet grants lines → SpelledLine sheet g line
    → SpellsLines sheet (grants ++ g ∷ []) (lines ++ line ∷ [])
same_more sheet grants lines g line same l =
    map-append (map lowered) lines (line ∷ [])
    ∙ rw (same, line_spells l)
    (sym (ap (map (map lowered)) (map-append (witness_line sheet) grants (g ∷ []))
    ∙ map-append (map lowered) (map (witness_line sheet) grants) (witness_line sheet g ∷ [])))

-- some lines have been read
pub record LinesRead (sheet : Sheet) (text : Bytes) (at : ℕ) (w : Witness) (next : ℕ) : Type 0 where
  pub grants : List Grant
  pub known : Each (Known sheet) grants
  pub collects : Collects w grants
  pub lines : List Line
  pub same : SpellsLines sheet grants lines
  pub reads : Stands text at (witness_texts lines) next

pub lines_start : (sheet : Sheet) (text : Bytes) (at : ℕ) → at ≤ length text → LinesRead sheet text at no_witness at
lines_start sheet text at h =
    record {
      grants = [];
      known = each_none (Known sheet);
      collects = collects_none;
      lines = [];
      same = refl;
      reads = stands_nothing text at h;
    }

pub lines_bound : {sheet : Sheet} {text : Bytes} {at next : ℕ} {w : Witness} → LinesRead sheet text at w next
    → w.lines ≤ length text
lines_bound {sheet} r =
    omega (
      arith,
      r.collects.counted,
      grants_few sheet r.grants r.lines r.same,
      stands_place r.reads,
      r.reads.within,
    )

pub line_read : {sheet : Sheet} {text : Bytes} {at next last : ℕ} {w : Witness} {line : WitnessLine}
    → LinesRead sheet text at w next
    → WitnessAt sheet text next line last → LinesRead sheet text at (with_line w line) last
line_read {sheet} {text} {at} {next} {last} {w} {line} r l =
    record {
      grants = r.grants ++ named_grant line ∷ [];
      known = λ g m.
          ⊎_elim (r.known g) (λ n. (let same : g ≡ named_grant line = Memᴰ.eq_of_singleton n
          in rw same l.known))
          (Memᴰ.append_cases r.grants m);
      collects = collects_more line r.collects;
      lines = r.lines ++ l.fields ∷ [];
      same = same_more sheet r.grants r.lines (named_grant line) l.fields r.same l.spelled;
      reads = rw (lines_more r.lines l.fields) (stands_then r.reads l.reads);
    }

pub lines_end : {sheet : Sheet} {text : Bytes} {at next : ℕ} {w : Witness} → LinesRead sheet text at w next
    → length text ≤ next
    → WitnessesAt sheet (drop at text) w
lines_end {sheet} {text} r h =
    record {
      grants = r.grants;
      known = r.known;
      collects = r.collects;
      lines = r.lines;
      same = r.same;
      there = r.reads.reads ∙ rw (drop_of_length-le text h) (append-nil (witness_texts r.lines));
    }

-- ---- where a line is missing

-- a line of a known grant, its names spelled in some case
record KnownLine (sheet : Sheet) (line : Line) : Type 0 where
  grant : Grant
  known : Known sheet grant
  spelled : SpelledLine sheet grant line

known_lines : {sheet : Sheet} {grants : List Grant} {lines : List Line} → Each (Known sheet) grants
    → SpellsLines sheet grants lines
    → Each (KnownLine sheet) lines
known_lines {sheet} {grants} {lines} known same line m =
    let r = line_of sheet grants lines same line m in
    record { grant = r.grant; known = known r.grant r.member; spelled = r.spelled }

module _ (sheet : Sheet) (lawful : Lawful sheet) where
  -- behind some lines there are only lines
  record LinesFollow (l : Bytes) : Type 0 where
    later : List Line
    known : Each (KnownLine sheet) later
    there : l ≡ witness_texts later

  lines_follow : (lines others : List Line) (l : Bytes) → Each (KnownLine sheet) lines → Each (KnownLine sheet) others
      → witness_texts lines ++ l ≡ witness_texts others → LinesFollow l
  lines_follow [] others l p q e = record { later = others; known = q; there = e }
  lines_follow (line ∷ lines) [] l p q e =
      absurd
      (omega (
        arith,
        line_some line,
        ap length e,
        length-append (line_text line ++ witness_texts lines) l,
        length-append (line_text line) (witness_texts lines),
      ))
  lines_follow (line ∷ lines) (other ∷ others) l p q e =
      let here = p line (Memᴰ.head refl) in
      let there = q other (Memᴰ.head refl) in
      lines_follow lines others l (λ f m. p f (Memᴰ.tail m)) (λ f m. q f (Memᴰ.tail m))
      ((lines_aligned sheet lawful here.known there.known here.spelled there.spelled).rest
      (witness_texts lines ++ l)
      (witness_texts others) (sym (append_assoc (line_text line) (witness_texts lines) l) ∙ e))

  pub lines_off : {text : Bytes} {at next : ℕ} {w : Witness} → LinesRead sheet text at w next → next < length text
      → NoWitness sheet text next
      → NoWitnesses sheet (drop at text)
  lines_off {text} {at} {next} r h m = record { none = contradiction }
    where
      last : (later : List Line) → Each (KnownLine sheet) later → drop next text ≡ witness_texts later → ⊥
      last [] k e = omega (arith, ap length e, length-drop next text)
      last (line ∷ later) k e =
          let first = k line (Memᴰ.head refl) in
          (m first.grant first.known line first.spelled).misses (witness_texts later) e

      contradiction : (grants : List Grant) → Each (Known sheet) grants → (lines : List Line)
          → SpellsLines sheet grants lines
          → drop at text ≡ witness_texts lines → ⊥
      contradiction grants k lines same e =
          let f = lines_follow r.lines lines (drop next text) (known_lines r.known r.same)
          (known_lines k same) (sym r.reads.reads ∙ e) in
          last f.later f.known f.there

-- ---- block 4

pub no_witness_heading : (sheet : Sheet) {text : Bytes} {at : ℕ} → Misses text at (ascii "user,permission\n")
    → NoWitnessPart sheet text at
no_witness_heading sheet m = record { none = λ grants k lines same e. m.misses (witness_texts lines) e }

pub heading_then_lines : (sheet : Sheet) {text : Bytes} {at mid : ℕ} → Stands text at (ascii "user,permission\n") mid
    → (r : Option Witness)
    → WitnessLinesRead sheet text mid r → WitnessPartReads sheet text at r
heading_then_lines sheet h (Some w) p =
    record {
      grants = p.grants;
      known = p.known;
      collects = p.collects;
      lines = p.lines;
      same = p.same;
      there = h.reads ∙ ap (λ (l : Bytes). ascii "user,permission\n" ++ l) p.there;
    }
heading_then_lines sheet h None p =
    record {
      none = λ grants k lines same e.
          p.none grants k lines same (sym (stands_rest h (witness_texts lines) e));
    }
