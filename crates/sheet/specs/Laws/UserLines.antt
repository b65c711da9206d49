-- Reading the lines of users one by one: one more line stands behind those read so far, and what was noted of them
-- stays. Assumes nothing.
use Rattle.std.specs.Prelude.{ℕ, suc, ◌+◌, ◌*◌, ◌/◌, ◌%◌, ◌≤◌, ◌<◌, ◌≡◌, refl, List, [], ◌∷◌, ◌++◌, length, get_or}
use Rattle.std.specs.Prelude.{drop, replicate}
use Rattle.std.proofs.Common.{not-suc-le-zero, ne_of_lt, le_trans, le-add_right, add-mul, arith, add-one, sym, ap}
use Rattle.std.proofs.Common.{subst, ◌∙◌, ⊎_elim, append_assoc, append-nil, length-set, drop_at}
use Rattle.std.proofs.lemmas.List.{length-replicate, drop-append-le}
use Rattle.spec.specs.Limits.{user_limit}
use Rattle.spec.specs.Text.{Bytes, Line, line_text, text_of}
use Rattle.spec.specs.Sheet.{cell_text}
use Rattle.bits.specs.Counting.{count_below, sum_below}
use Rattle.bits.specs.Laws.Below.{last_or_below}
use Rattle.bits.specs.Laws.Count.{count_below_le, count_below_ext}
use Rattle.bits.specs.Laws.Sum.{sum_below_ext, sum_below_le}
use Rattle.bits.specs.Laws.Step.{sum_below_step}
use Rattle.bits.specs.Bit.{word_bits}
use Rattle.bits.specs.Laws.Bit.{bit_of_zero}
use Rattle.text.specs.Laws.Line.{text_append}
use Rattle.lists.specs.ListOfLaws.{list_of_last, list_of_same, length_list_of}
use Rattle.cell_rows.specs.Rows.{row_words, row_bits, cell}
use Rattle.cells_read.specs.RowGrown.{Blank}
use Rattle.places.specs.Places.{place_base, place_of, from_at, to_at, BlankPast}
use Rattle.places.specs.Laws.Places.{note_place, place_stays, noted_from, noted_to, zero_there, blank_kept}
use Rattle.steps.specs.Stands.{Stands}
use Rattle.steps.specs.Laws.Stands.{stands_nothing, stands_then}
use Rattle.sheet.specs.UserLine.{UserAt, line_of, LineStands}
use Rattle.sheet.specs.UserLines.{Room, line_at, lines_at, ones_at, LinesNoted}
use Rattle.sheet.specs.Laws.RowCount.{count_narrow}
use Rattle.sheet.specs.declared.user_line.UserLine.{UserLine}

-- one line more in a text
pub text_more : (lines : List Line) (line : Line) → text_of (lines ++ line ∷ []) ≡ text_of lines ++ line_text line
text_more lines line =
    text_append lines (line ∷ []) ∙ ap (λ (l : Bytes). text_of lines ++ l) (append-nil (line_text line))

-- no line yet
pub lines_start : (text : Bytes) (start width : ℕ) (places words : List ℕ) → start ≤ length text → Room places words
    → LinesNoted text start width places words 0 0 start
unfolding sum_below
lines_start text start width places words h room =
    record {
      places_room = room.places_room;
      words_room = room.words_room;
      few = omega arith;
      each = λ u l. absurd (not-suc-le-zero l);
      stands = stands_nothing text start h;
      starts = λ u l. absurd (not-suc-le-zero l);
      unnoted = room.unnoted;
      beyond = λ i l. room.blank i (omega arith);
      counted = refl;
    }

-- there are few cells
pub few_ones : (width : ℕ) (words : List ℕ) (n : ℕ) → width ≤ row_bits → ones_at width words n ≤ n * row_bits
few_ones width words n h =
    sum_below_le n row_bits (λ u. count_below width (cell words u)) (λ u l. le_trans (count_below_le width
    (cell words u)) h)

-- a row behind those read has no cell set
pub next_blank : (words : List ℕ) (n : ℕ) → BlankPast (n * row_words) words → Blank words n
next_blank words n beyond =
    record {
      none = λ p l. rw (beyond (n * row_words + p / word_bits) (le-add_right (n * row_words) (p / word_bits)))
          (bit_of_zero (p % word_bits));
    }

-- one line more
module _ (text : Bytes) (start width : ℕ) (places words after : List ℕ) (n ones at : ℕ)
    (read : LinesNoted text start width places words n ones at) (fits : width ≤ row_bits)
    (kept : length after ≡ length words)
    (small : length text < place_base) (h : n < user_limit) (line : UserLine)
    (stands : LineStands text at width n words after line)
  where
    abbrev noted : List ℕ
    noted = note_place places n at line.to

    abbrev new_line : Line
    new_line = line_of text width at line.to (cell after n)

    room : n < length places
    room = omega (arith, read.places_room)

    end : line.to < place_base
    end = omega (arith, stands.name.within)

    here_from : from_at noted n ≡ at
    here_from = noted_from places n at line.to room end

    here_to : to_at noted n ≡ line.to
    here_to = noted_to places n at line.to room end

    place : (u : ℕ) → u < n → get_or noted u 0 ≡ get_or places u 0
    place u k = place_stays places n at line.to u k

    cells_stay : (u : ℕ) → u < n → (p : ℕ) → p < row_bits → cell after u p ≡ cell words u p
    cells_stay u k p l = stands.grown.others u p (ne_of_lt k) l

    line_stays : (u : ℕ) → u < n → line_at text width noted after u ≡ line_at text width places words u
    line_stays u k =
        rw (
          place u k,
          list_of_same width (λ i. cell_text (cell after u i)) (λ i. cell_text (cell words u i))
              (λ i l. ap cell_text (cells_stay u k i (omega arith))),
        )

    lines_grow : lines_at text width noted after (suc n) ≡ lines_at text width places words n ++ new_line ∷ []
    lines_grow =
        list_of_last n (line_at text width noted after)
        ∙ rw (
          list_of_same n (line_at text width noted after) (line_at text width places words) line_stays,
          here_from,
          here_to,
        )

    before_length : length (lines_at text width places words n) ≡ n
    before_length = length_list_of n (line_at text width places words)

    starts_here : drop at text ≡ text_of (drop n (lines_at text width places words n ++ new_line ∷ []))
        ++ drop line.next text
    starts_here =
        rw (
          drop_at (lines_at text width places words n) (new_line ∷ []) n before_length,
          append-nil (line_text new_line),
        ) stands.stands.reads

    starts_before : (u : ℕ) → u < n
        → drop (from_at places u) text ≡ text_of (drop u (lines_at text width places words n ++ new_line ∷ []))
        ++ drop line.next text
    starts_before u k =
        read.starts u k
        ∙ ap (λ (l : Bytes). text_of (drop u (lines_at text width places words n)) ++ l) stands.stands.reads
        ∙ sym (append_assoc (text_of (drop u (lines_at text width places words n))) (line_text new_line)
        (drop line.next text))
        ∙ rw (
          drop-append-le u (lines_at text width places words n) (new_line ∷ []) (omega (arith, before_length)),
          text_more (drop u (lines_at text width places words n)) new_line,
        )

    user_here : (u : ℕ) → u ≡ n → UserAt text width (from_at noted u) (to_at noted u) (cell after u)
    user_here u e = rw (e, here_from, here_to) (record { name = stands.name; narrow = stands.grown.beyond })

    user_before : (u : ℕ) → u < n → UserAt text width (from_at noted u) (to_at noted u) (cell after u)
    user_before u k =
        let user = read.each u k in
        record {
          name = rw (place u k) user.name;
          narrow = λ p f l. cells_stay u k p l ∙ user.narrow p f l;
        }

    line_here : (u : ℕ) → u ≡ n
        → drop (from_at noted u) text ≡ text_of (drop u (lines_at text width places words n ++ new_line ∷ []))
        ++ drop line.next text
    line_here u e = rw (e, here_from) starts_here

    counted_more : ones + count_below row_bits (cell after n) ≡ ones_at width after (suc n)
    counted_more =
        rw (
          ← add-one n,
          sum_below_step n (λ u. count_below width (cell after u)),
          count_narrow width row_bits (cell after n) fits stands.grown.beyond,
          read.counted,
          sum_below_ext n (λ u. count_below width (cell after u)) (λ u. count_below width (cell words u))
              (λ u k. count_below_ext width (cell after u) (cell words u) (λ p l. cells_stay u k p (omega arith))),
        )

    beyond_more : BlankPast (suc n * row_words) after
    beyond_more i l =
        let past : (n + 1) * row_words ≤ i = rw (add-one n) l in
        stands.grown.later i past ∙ read.beyond i (omega (arith, past, add-mul n 1 row_words))

    pub lines_more : LinesNoted text start width noted after (suc n) (ones + count_below row_bits (cell after n))
        line.next
    lines_more =
        record {
          places_room = length-set places n (place_of at line.to) ∙ read.places_room;
          words_room = kept ∙ read.words_room;
          few = h;
          each = λ u l. ⊎_elim (user_here u) (user_before u) (last_or_below l);
          stands = subst (λ (l : List Line). Stands text start (text_of l) line.next) (sym lines_grow)
              (rw (text_more (lines_at text width places words n) new_line)
              (stands_then read.stands stands.stands));
          starts = λ u l.
              subst (λ (l : List Line). drop (from_at noted u) text ≡ text_of (drop u l) ++ drop line.next text)
              (sym lines_grow)
              (⊎_elim (line_here u) (λ k. rw (place u k) (starts_before u k)) (last_or_below l));
          unnoted = blank_kept n places (place_of at line.to) read.unnoted;
          beyond = beyond_more;
          counted = counted_more;
        }

-- new lists have room
pub new_room : Room (replicate user_limit 0) (replicate (user_limit * row_words) 0)
new_room =
    record {
      places_room = length-replicate user_limit 0;
      words_room = length-replicate (user_limit * row_words) 0;
      unnoted = λ i l. zero_there user_limit i;
      blank = λ i l. zero_there (user_limit * row_words) i;
    }
