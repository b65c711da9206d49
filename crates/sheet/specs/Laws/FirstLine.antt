-- Reading the names of the first line one by one: one more name stands behind those read so far. Assumes nothing.
use Rattle.std.specs.Prelude.{ℕ, zero, suc, ◌+◌, ◌≤◌, ◌<◌, ◌≡◌, refl, not, ◌&&◌, List, ◌∷◌, ◌++◌, eqb, ltb, length}
use Rattle.std.specs.Prelude.{get_or}
use Rattle.std.proofs.Common.{not-suc-le-zero, arith, add-one, sym, ap, subst, ◌∙◌, ⊎_elim, append_assoc, ltb-false}
use Rattle.std.proofs.Common.{length-set, get_or-set_other}
use Rattle.std.proofs.Math.Bool.{So}
use Rattle.std.proofs.lemmas.Bool.{not-true}
use Rattle.spec.specs.Limits.{permission_limit, user_limit}
use Rattle.spec.specs.Text.{ascii, same_bytes, Bytes, comma, line_feed}
use Rattle.bits.specs.Truth.{and_left, and_right}
use Rattle.bits.specs.Laws.Below.{last_or_below}
use Rattle.lists.specs.TestLaws.{same_bytes_equal}
use Rattle.lists.specs.Listed.{listed, listed_suc, listed_same}
use Rattle.text.specs.Laws.Line.{line_parts}
use Rattle.places.specs.Places.{place_base, place_of, from_at, to_at, to_of, part, BlankPast}
use Rattle.names.specs.NamesAt.{name_there}
use Rattle.places.specs.Laws.Places.{note_place, place_stays, noted_from, noted_to, blank_kept}
use Rattle.steps.specs.Stands.{Stands}
use Rattle.steps.specs.Laws.Stands.{stands_then, stands_found, stands_part}
use Rattle.sheet.specs.Spelled.{NameAt}
use Rattle.sheet.specs.FirstLine.{says_user, NamesRoom, end_before, Run, FirstLineStands}

-- fields by number, each behind a comma
abbrev pub fields_text : ℕ → (ℕ → Bytes) → Bytes
fields_text count field = listed count (λ i. comma ∷ field i)

-- `user` and the first n names stand in the text up to `at`
pub record NamesNoted (text : Bytes) (places : List ℕ) (n at : ℕ) : Type 0 where
  pub room : length places ≡ user_limit
  pub few : n ≤ permission_limit
  pub each : (i : ℕ) → i < n → NameAt text (from_at places i) (to_at places i)
  pub stands : Stands text 0 (ascii "user" ++ fields_text n (name_there text places)) at
  pub reached : at ≡ end_before places n
  pub run : Run places n
  pub unnoted : BlankPast n places

-- no name yet
pub names_start : (text : Bytes) (places : List ℕ) → NamesRoom places → So (says_user text)
    → NamesNoted text places 0 4
unfolding says_user
names_start text places room p =
    let long : 4 ≤ length text = ltb-false (length text) 4 (not-true (ltb (length text) 4)
    (and_left (not (ltb (length text) 4)) (same_bytes (part 0 4 text) (ascii "user")) p)) in
    let user : part 0 4 text ≡ ascii "user" = same_bytes_equal (part 0 4 text) (ascii "user")
    (and_right (not (ltb (length text) 4)) (same_bytes (part 0 4 text) (ascii "user")) p) in
    record {
      room = room.room;
      few = omega arith;
      each = λ i l. absurd (not-suc-le-zero l);
      stands = subst (λ (l : Bytes). Stands text 0 l 4) user (stands_part text 0 4 (omega arith) long);
      reached = refl;
      run = λ i l. absurd (not-suc-le-zero l);
      unnoted = room.unnoted;
    }

-- a name noted next leaves where those before it end
end_kept : (places : List ℕ) (n from to i : ℕ) → i ≤ n → end_before (note_place places n from to) i ≡ end_before
    places i
end_kept places n from to zero h = refl
end_kept places n from to (suc i) h = ap to_of (get_or-set_other places n i (place_of from to) 0 (λ e. omega arith))

-- one name more
module _ (text : Bytes) (places : List ℕ) (n at : ℕ) (read : NamesNoted text places n at)
    (small : length text < place_base) (h : n < permission_limit)
    (found : So (ltb at (length text) && eqb (get_or text at 0) comma)) (end : ℕ)
    (name : NameAt text (at + 1) end) where
  abbrev noted : List ℕ
  noted = note_place places n (at + 1) end

  room : n < length places
  unfolding permission_limit user_limit
  room = omega (arith, read.room)

  here_from : from_at noted n ≡ at + 1
  here_from = noted_from places n (at + 1) end room (omega (arith, name.within))

  here_to : to_at noted n ≡ end
  here_to = noted_to places n (at + 1) end room (omega (arith, name.within))

  place : (i : ℕ) → i < n → get_or noted i 0 ≡ get_or places i 0
  place i k = place_stays places n (at + 1) end i k

  fields_more : fields_text (suc n) (name_there text noted)
      ≡ fields_text n (name_there text places) ++ comma ∷ part (at + 1) end text
  fields_more =
      listed_suc n (λ i. comma ∷ name_there text noted i)
      ∙ rw (
        listed_same n (λ i. comma ∷ name_there text noted i) (λ i. comma ∷ name_there text places i)
            (λ i k. rw (place i k)),
        here_from,
        here_to,
      )

  name_here : (i : ℕ) → i ≡ n → NameAt text (from_at noted i) (to_at noted i)
  name_here i e = rw (e, here_from, here_to) name

  run_here : (i : ℕ) → i ≡ n → from_at noted i ≡ suc (end_before noted i)
  run_here i e = rw (e, here_from, end_kept places n (at + 1) end n (omega arith), ← read.reached) (add-one at)

  run_before : (i : ℕ) → i < n → from_at noted i ≡ suc (end_before noted i)
  run_before i k = rw (place i k, end_kept places n (at + 1) end i (omega arith)) (read.run i k)

  pub names_more : NamesNoted text noted (suc n) end
  names_more =
      record {
        room = length-set places n (place_of (at + 1) end) ∙ read.room;
        few = h;
        each = λ i l. ⊎_elim (name_here i) (λ k. rw (place i k) (read.each i k)) (last_or_below l);
        stands = subst (λ (l : Bytes). Stands text 0 (ascii "user" ++ l) end) (sym fields_more)
            (subst (λ (l : Bytes). Stands text 0 l end)
            (append_assoc (ascii "user") (fields_text n (name_there text places)) (comma ∷ part (at + 1) end text))
            (stands_then read.stands (stands_then (stands_found text at comma found) behind)));
        reached = sym here_to;
        run = λ i l. ⊎_elim (run_here i) (run_before i) (last_or_below l);
        unnoted = blank_kept n places (place_of (at + 1) end) read.unnoted;
      }
    where
      behind : Stands text (suc at) (part (at + 1) end text) end
      behind = rw (← add-one at) (stands_part text (at + 1) end (omega (arith, name.forward)) name.within)

-- behind the last name the line ends
pub first_line_stands : (text : Bytes) (places : List ℕ) (n at : ℕ) → NamesNoted text places n at → 1 ≤ n
    → So (ltb at (length text) && eqb (get_or text at 0) line_feed) → FirstLineStands text places n (suc at)
first_line_stands text places n at read some found =
    record {
      room = read.room;
      some_name = some;
      few = read.few;
      each = read.each;
      stands = rw (line_parts (ascii "user") n (name_there text places))
          (stands_then read.stands (stands_found text at line_feed found));
      run = read.run;
      unnoted = read.unnoted;
    }
