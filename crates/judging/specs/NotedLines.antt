-- The lines of a witness that stood so far, noted by permission: a row of words with the permissions that are taken,
-- those of these lines, and the user of the line of each, its owner. No two of these lines have one permission, since
-- two held grants of one permission fit. So the grant of a line fits that of an earlier one exactly where its user
-- holds a permission that is taken and the owner of that permission holds the line's.
use Prim.Native.Nat.{ℕ, ◌+◌, ◌*◌, ◌≤◌, ◌<◌}
use native.Mathlib.Omega.{arith}
use Rattle.std.specs.Prelude.{◌≡◌, false, not, ◌&&◌, ◌||◌, List, eqb, length, get_or, set}
use Rattle.std.proofs.Common.{sym, ◌∙◌, ⊎_elim, eqb-true, eq-eqb, get_or-set_same, get_or-set_other}
use Rattle.std.proofs.Math.Path.{ap}
use Rattle.std.proofs.Math.Bool.{Bool, So}
use Rattle.std.proofs.Math.Arith.{digits_div, digits_mod}
use Rattle.std.specs.Int.Bits.{bit_and}
use Rattle.spec.specs.Vocabulary.{every_below}
use Rattle.bits.specs.Truth.{same_truth, not_both, and_intro, and_left, and_right, or_left, or_right, or_cases}
use Rattle.bits.specs.Counting.{some_below, Found, Lowest}
use Rattle.bits.specs.Laws.Below.{below_or_from, some_below_intro, some_below_elim, none_below_intro}
use Rattle.bits.specs.Laws.Below.{none_below_elim, some_below_ext, some_below_add, some_below_more, every_below_elim}
use Rattle.bits.specs.Laws.Cut.{some_below_apart}
use Rattle.bits.specs.Bit.{bit, word_bits}
use Rattle.bits.specs.Laws.Bit.{bit_of_zero, bit_of_and}
use Rattle.bits.specs.Word.{LowestDropped}
use Rattle.cell_rows.specs.Rows.{row_words, row_bits, cell}
use Rattle.cell_rows.specs.CellPlaces.{marked}
use Rattle.cell_rows.specs.CellAdded.{PositionSet}
use Rattle.read_fields.specs.declared.witness_block.WitnessLine.{WitnessLine}
use Rattle.read_fields.specs.declared.witness_block.Witness.{Witness}
use Rattle.judging.specs.WitnessWords.{LinesWithin, line_of, line_held, lines_fit, fits_earlier, line_stands}

-- user u holds permission q, which is taken, and the owner of q holds permission p
abbrev pub crosses : List ℕ → List ℕ → List ℕ → ℕ → ℕ → ℕ → Bool
crosses rows taken owners u p q = (cell rows u q && marked taken q) && cell rows (get_or owners q 0) p

-- the grant of a line fits that of a line noted
unfoldable pub fits_noted : List ℕ → List ℕ → List ℕ → WitnessLine → Bool
fits_noted rows taken owners line =
    some_below row_bits (crosses rows taken owners line.user.0 line.permission.0)

-- the owner of one of the permissions at the positions of a word, counted from a permission on, holds permission p
unfoldable pub some_owner : List ℕ → List ℕ → ℕ → ℕ → ℕ → Bool
some_owner rows owners first p some =
    some_below word_bits (λ b. bit some b && cell rows (get_or owners (first + b) 0) p)

-- the owners of these permissions have rows
pub record OwnersWithin (rows owners : List ℕ) (first some : ℕ) : Type 0 where
  pub each : (b : ℕ) → b < word_bits → So (bit some b) → (get_or owners (first + b) 0 + 1) * row_words ≤ length rows

-- the owners of all permissions taken have rows
pub record NotedWithin (rows taken owners : List ℕ) : Type 0 where
  pub each : (q : ℕ) → So (marked taken q) → (get_or owners q 0 + 1) * row_words ≤ length rows

-- ---- permission after permission

pub no_owner : (rows owners : List ℕ) (first p : ℕ) → some_owner rows owners first p 0 ≡ false
unfolding some_owner
no_owner rows owners first p =
    none_below_intro word_bits (λ b. bit 0 b && cell rows (get_or owners (first + b) 0) p) (λ b l. rw (bit_of_zero b))

-- the lowest of them, and the others
pub owner_first : (rows owners : List ℕ) (first p : ℕ) {left after low : ℕ} → Lowest word_bits (bit left) low
    → LowestDropped left after
    → some_owner rows owners first p left ≡ (cell rows (get_or owners (first + low) 0) p
    || some_owner rows owners first p after)
unfolding some_owner
owner_first rows owners first p {left} {after} {low} w d =
    some_below_apart word_bits (bit left) (λ b. cell rows (get_or owners (first + b) 0) p) w.within w.holds
    ∙ ap (λ (t : Bool). cell rows (get_or owners (first + low) 0) p || t)
    (some_below_ext word_bits _ (λ b. bit after b && cell rows (get_or owners (first + b) 0) p)
    (λ b l. rw (d.others w b)))

-- where the owner of the lowest holds it, one does
pub owner_found : (rows owners : List ℕ) (first p left : ℕ) {low : ℕ} → Lowest word_bits (bit left) low
    → So (cell rows (get_or owners (first + low) 0) p) → So (some_owner rows owners first p left)
unfolding some_owner
owner_found rows owners first p left {low} w e =
    some_below_intro word_bits (λ b. bit left b && cell rows (get_or owners (first + b) 0) p) w.within
    (and_intro (bit left low) (cell rows (get_or owners (first + low) 0) p) w.holds e)

-- those that are left have rows too
pub owners_dropped : {rows owners : List ℕ} {first left after low : ℕ} → Lowest word_bits (bit left) low
    → LowestDropped left after → OwnersWithin rows owners first left → OwnersWithin rows owners first after
owners_dropped {rows} {owners} {first} {left} {after} {low} w d g =
    record { each = λ b l e. g.each b l (and_left (bit left b) (not (eqb b low)) (sym (d.others w b) ∙ e)) }

-- ---- word after word

module _ (rows taken owners : List ℕ) (u p k some : ℕ)
    (joined : some ≡ bit_and (get_or rows (u * row_words + k) 0) (get_or taken k 0)) where
  -- the permissions of word k that the user holds and that are taken
  in_word : (b : ℕ) → b < word_bits
      → (cell rows u (k * word_bits + b) && marked taken (k * word_bits + b)) ≡ bit some b
  in_word b l =
      rw (joined, digits_div k l, digits_mod k l)
      (sym (bit_of_and (get_or rows (u * row_words + k) 0) (get_or taken k 0) b))

  pub word_owners : NotedWithin rows taken owners → OwnersWithin rows owners (k * word_bits) some
  word_owners n =
      record {
        each = λ b l e.
            n.each (k * word_bits + b)
            (and_right (cell rows u (k * word_bits + b)) (marked taken (k * word_bits + b)) (in_word b l
            ∙ e));
      }

  pub word_crosses : some_below ((k + 1) * word_bits) (crosses rows taken owners u p)
      ≡ (some_below (k * word_bits) (crosses rows taken owners u p)
      || some_owner rows owners (k * word_bits) p some)
  unfolding some_owner
  word_crosses =
      let longer : (k + 1) * word_bits ≡ k * word_bits + word_bits = omega arith in
      rw (longer, some_below_add (k * word_bits) word_bits (crosses rows taken owners u p))
      (ap (λ (t : Bool). some_below (k * word_bits) (crosses rows taken owners u p) || t)
      (some_below_ext word_bits (λ b. crosses rows taken owners u p (k * word_bits + b))
      (λ b. bit some b && cell rows (get_or owners (k * word_bits + b) 0) p)
      (λ b l. ap (λ (t : Bool). t && cell rows (get_or owners (k * word_bits + b) 0) p)
      (in_word b l))))

  pub word_found : k < row_words → So (some_owner rows owners (k * word_bits) p some)
      → So (some_below row_bits (crosses rows taken owners u p))
  unfolding row_bits
  word_found h e =
      some_below_more ((k + 1) * word_bits) (row_words * word_bits) (crosses rows taken owners u p) (omega arith)
      (word_crosses
      ∙ or_right (some_below (k * word_bits) (crosses rows taken owners u p))
      (some_owner rows owners (k * word_bits) p some) e)

-- ---- line after line

-- the first j lines are noted
pub record Noted (w : Witness) (j : ℕ) (taken owners : List ℕ) : Type 0 where
  pub takes : (i : ℕ) → i < j → So (marked taken (line_of w i).permission.0)
  pub owner : (i : ℕ) → i < j → get_or owners (line_of w i).permission.0 0 ≡ (line_of w i).user.0
  pub line : (q : ℕ) → So (marked taken q) → Found j (λ i. eqb (line_of w i).permission.0 q)

pub none_noted : (w : Witness) (taken owners : List ℕ) → ((q : ℕ) → marked taken q ≡ false) → Noted w 0 taken owners
none_noted w taken owners none = record {
  takes = λ i l. absurd (omega arith);
  owner = λ i l. absurd (omega arith);
  line = λ q e. absurd (not_both e (none q));
}

module _ (rows : List ℕ) (w : Witness) (j : ℕ) (taken owners : List ℕ) (noted : Noted w j taken owners)
    (within : LinesWithin rows w) where
  -- the owners are users of lines, so they have rows
  pub noted_within : j ≤ w.lines → NotedWithin rows taken owners
  noted_within h =
      record {
        each = λ q e.
            let f = noted.line q e in
            let i = f.place in
            let same : (line_of w i).permission.0 ≡ q = eqb-true (line_of w i).permission.0 q f.holds in
            let l = f.within in
            rw (← same, noted.owner i l) (within.each i (omega arith)).row;
      }

  -- the grant of line j fits that of a line noted exactly where it fits that of an earlier line
  pub noted_fits : j < w.lines → fits_noted rows taken owners (line_of w j) ≡ fits_earlier rows w j
  unfolding fits_noted fits_earlier
  noted_fits h = same_truth (some_below row_bits crossing) (some_below j fitting) forth back
    where
      crossing : ℕ → Bool
      crossing = crosses rows taken owners (line_of w j).user.0 (line_of w j).permission.0

      fitting : ℕ → Bool
      fitting i = lines_fit rows (line_of w i) (line_of w j)

      forth : So (some_below row_bits crossing) → So (some_below j fitting)
      forth e =
          let r = some_below_elim row_bits crossing e in
          let q = r.place in
          let held = cell rows (line_of w j).user.0 q in
          let crossed = cell rows (get_or owners q 0) (line_of w j).permission.0 in
          let both = and_left (held && marked taken q) crossed r.holds in
          let f = noted.line q (and_right held (marked taken q) both) in
          let i = f.place in
          let same : (line_of w i).permission.0 ≡ q = eqb-true (line_of w i).permission.0 q f.holds in
          let owned : get_or owners q 0 ≡ (line_of w i).user.0 = rw same at (noted.owner i f.within) in
          some_below_intro j fitting f.within
          (and_intro (cell rows (line_of w i).user.0 (line_of w j).permission.0)
          (cell rows (line_of w j).user.0 (line_of w i).permission.0)
          (rw owned at (and_right (held && marked taken q) crossed r.holds))
          (rw same (and_left held (marked taken q) both)))

      back : So (some_below j fitting) → So (some_below row_bits crossing)
      back e =
          let f = some_below_elim j fitting e in
          let i = f.place in
          let l = f.within in
          let q = (line_of w i).permission.0 in
          let other = cell rows (line_of w i).user.0 (line_of w j).permission.0 in
          let held = cell rows (line_of w j).user.0 q in
          some_below_intro row_bits crossing {i = q} (within.each i (omega arith)).place
          (and_intro (held && marked taken q) (cell rows (get_or owners q 0) (line_of w j).permission.0)
          (and_intro held (marked taken q) (and_right other held f.holds) (noted.takes i l))
          (rw (noted.owner i l) (and_left other held f.holds)))

  -- a line that is held and fits none before it has another permission than each of them
  other_permission : So (every_below j (line_stands rows w)) → So (line_held rows (line_of w j))
      → fits_earlier rows w j ≡ false → (i : ℕ) → i < j → (line_of w i).permission.0 ≡ (line_of w j).permission.0 → ⊥
  unfolding fits_earlier
  other_permission stood held fails i l same =
      let before = every_below_elim j (line_stands rows w) stood l in
      let held_before = and_left (line_held rows (line_of w i)) (not (fits_earlier rows w i)) before in
      not_both
      (and_intro (cell rows (line_of w i).user.0 (line_of w j).permission.0)
      (cell rows (line_of w j).user.0 (line_of w i).permission.0)
      (rw same at held_before)
      (rw same held))
      (none_below_elim j (λ i. lines_fit rows (line_of w i) (line_of w j)) fails l)

  -- one line more is noted: the owners of the permissions of the lines before it stay
  pub noted_more : So (every_below j (line_stands rows w)) → So (line_held rows (line_of w j))
      → fits_earlier rows w j ≡ false → {after : List ℕ} → PositionSet taken after (line_of w j).permission.0
      → (line_of w j).permission.0 < length owners
      → Noted w (j + 1) after (set owners (line_of w j).permission.0 (line_of w j).user.0)
  noted_more stood held fails {after} put room = record { takes = takes; owner = owner; line = line }
    where
      p : ℕ
      p = (line_of w j).permission.0

      takes : (i : ℕ) → i < j + 1 → So (marked after (line_of w i).permission.0)
      takes i l =
          rw (put.shows (line_of w i).permission.0)
          (⊎_elim
          (λ (b : i < j). or_left (marked taken (line_of w i).permission.0) (eqb (line_of w i).permission.0 p)
          (noted.takes i b))
          (λ (b : j ≤ i).
          let last : i ≡ j = omega arith in
          or_right (marked taken (line_of w i).permission.0) (eqb (line_of w i).permission.0 p)
          (eq-eqb (line_of w i).permission.0 p (ap (λ (n : ℕ). (line_of w n).permission.0) last)))
          (below_or_from i j))

      owner : (i : ℕ) → i < j + 1 → get_or (set owners p (line_of w j).user.0) (line_of w i).permission.0 0
          ≡ (line_of w i).user.0
      owner i l =
          ⊎_elim
          (λ (b : i < j).
          get_or-set_other owners p (line_of w i).permission.0 (line_of w j).user.0 0
          (other_permission stood held fails i b)
          ∙ noted.owner i b)
          (λ (b : j ≤ i).
          let last : i ≡ j = omega arith in
          rw last (get_or-set_same owners p (line_of w j).user.0 0 room))
          (below_or_from i j)

      line : (q : ℕ) → So (marked after q) → Found (j + 1) (λ i. eqb (line_of w i).permission.0 q)
      line q e =
          ⊎_elim
          (λ (t : So (marked taken q)).
          let f = noted.line q t in
          let l = f.within in
          record { place = f.place; within = omega arith; holds = f.holds })
          (λ (t : So (eqb q p)).
          record { place = j; within = omega arith; holds = eq-eqb p q (sym (eqb-true q p t)) })
          (or_cases (marked taken q) (eqb q p) (sym (put.shows q) ∙ e))
