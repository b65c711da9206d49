-- Noting where the names of user lines stand, line by line: the lines from the next place on are those that no name
-- was noted of. Assumes nothing.
use Rattle.std.specs.Prelude.{ℕ, suc, ◌≤◌, ◌<◌, ◌≡◌, refl, List, [], ◌∷◌, map, length, get_or, drop}
use Rattle.std.proofs.Common.{not-suc-le-zero, arith, sym, ap, ◌∙◌, ⊎_elim, length-set, drop_of_length-le}
use Rattle.std.proofs.Math.ListN.{get_or-map}
use Rattle.spec.specs.Text.{Bytes, lines_of}
use Rattle.spec.specs.Sheet.{first_field}
use Rattle.bits.specs.Laws.Below.{last_or_below, below_or_from}
use Rattle.lists.specs.DropLaws.{left_below, left_first, left_rest, none_left}
use Rattle.refusal.specs.FirstLine.{line_fields}
use Rattle.refusal.specs.ReadLine.{ReadLine}
use Rattle.refusal.specs.Laws.Body.{line_read}
use Rattle.places.specs.Places.{place_base, place_of, from_at}
use Rattle.places.specs.Laws.Places.{note_place, place_stays, noted_from, name_noted, none_noted}
use Rattle.refusal.specs.UserPlaces.{UserPlacesBelow, UserPlaces}
use Rattle.refusal.specs.declared.line.LineRead.{LineRead}

-- the names of the first n lines from a place on are noted, and the next line starts at another
pub record Noting (room : ℕ) (text : Bytes) (at : ℕ) (places : List ℕ) (n from : ℕ) : Type 0 where
  pub has_room : length places ≡ room
  pub small : length text < place_base
  pub noted : UserPlacesBelow n text at places
  pub lines_to_come : lines_of (drop from text) ≡ drop n (lines_of (drop at text))
  pub within : from ≤ suc (length text)

pub noting_starts : (room : ℕ) (text : Bytes) (at : ℕ) (places : List ℕ) → length places ≡ room
    → length text < place_base
    → at ≤ suc (length text) → Noting room text at places 0 at
noting_starts room text at places s small h =
    record {
      has_room = s;
      small = small;
      noted = record {
        names = none_noted text places (map first_field (lines_of (drop at text)));
        starts = λ i l. absurd (not-suc-le-zero l);
      };
      lines_to_come = refl;
      within = h;
    }

module _ (room : ℕ) (text : Bytes) (at : ℕ) (places : List ℕ) (n from : ℕ) (noting : Noting room text at places n from)
    (h : from < length text) (r : LineRead) (read : ReadLine text from r) where
  left : drop n (lines_of (drop at text)) ≡ line_fields (drop from text) ∷ lines_of (drop r.next text)
  left = sym noting.lines_to_come ∙ line_read text from r h read

  -- while a line is left, fewer names are noted than there are lines
  pub noting_below : n < length (lines_of (drop at text))
  noting_below = left_below (lines_of (drop at text)) n (line_fields (drop from text))
      (lines_of (drop r.next text)) left

  name_there : get_or (map first_field (lines_of (drop at text))) n [] ≡ first_field (line_fields (drop from text))
  name_there =
      get_or-map first_field (lines_of (drop at text)) n []
      ∙ ap first_field (left_first (lines_of (drop at text)) n (line_fields (drop from text)) []
      (lines_of (drop r.next text)) left)

  pub noting_goes_on : length (lines_of (drop at text)) ≤ room
      → Noting room text at (note_place places n from r.to) (suc n) r.next
  noting_goes_on few =
      record {
        has_room = length-set places n (place_of from r.to) ∙ noting.has_room;
        small = noting.small;
        noted = record {
          names =
              name_noted places n from r.to below end text (map first_field (lines_of (drop at text)))
              noting.noted.names (rw name_there read.name);
          starts = λ i l. ⊎_elim (here i) (earlier i) (last_or_below l);
        };
        lines_to_come = sym (left_rest (lines_of (drop at text)) n (line_fields (drop from text))
            (lines_of (drop r.next text)) left);
        within = read.within;
      }
    where
      below : n < length places
      below = omega (arith, noting_below, noting.has_room)

      end : r.to < place_base
      end = omega (arith, read.name.within, noting.small)

      here : (i : ℕ) → i ≡ n
          → lines_of (drop (from_at (note_place places n from r.to) i) text) ≡ drop i (lines_of (drop at text))
      here i e = rw (e, noted_from places n from r.to below end) noting.lines_to_come

      earlier : (i : ℕ) → i < n
          → lines_of (drop (from_at (note_place places n from r.to) i) text) ≡ drop i (lines_of (drop at text))
      earlier i l = rw (place_stays places n from r.to i l) (noting.noted.starts i l)

-- while fewer names are noted than there are lines, a line is left
pub noting_left : (room : ℕ) (text : Bytes) (at : ℕ) (places : List ℕ) (n from : ℕ) → Noting room text at places n from
    → n < length (lines_of (drop at text)) → from < length text
noting_left room text at places n from noting h = ⊎_elim (λ l. l) past (below_or_from from (length text))
  where
    past : length text ≤ from → from < length text
    past l =
        let nothing : drop n (lines_of (drop at text)) ≡ [] = sym noting.lines_to_come ∙ rw (drop_of_length-le text l)
        in
        let all : length (lines_of (drop at text)) ≤ n = none_left (lines_of (drop at text)) n nothing in
        absurd (omega arith)

-- past the last line all names are noted
pub noting_ends : (room : ℕ) (text : Bytes) (at : ℕ) (places : List ℕ) (n from : ℕ) → Noting room text at places n from
    → n ≡ length (lines_of (drop at text)) → UserPlaces text at places
noting_ends room text at places n from noting e = rw (← e) noting.noted
