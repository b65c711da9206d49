-- A sweep user by user, and word by word. The cells of a word are visited from the lowest position on; those still to
-- come are the positions of w, and visiting one leaves the others as they were. From word to word the cells visited
-- are those below the next word, so at the end all that remained at first.
use Rattle.std.specs.Prelude.{ℕ, ◌+◌, ◌*◌, ◌≤◌, ◌<◌, ◌≡◌, false, not, ◌&&◌, eqb, get_or}
use Rattle.std.proofs.Common.{add-zero, add_assoc, suc-mul, arith, sym, ap, ◌∙◌}
use Rattle.std.proofs.Math.Bool.{So}
use mathlib.Core.List.Memᴰ
use mathlib.Core.List.{List, [], ◌∷◌, map, Memᴰ}
use Rattle.std.proofs.lemmas.Bool.{eqb-false}
use Rattle.bits.specs.Bit.{bit, word_bits}
use Rattle.bits.specs.Laws.Bit.{bit_of_zero}
use Rattle.bits.specs.Truth.{and_left, and_right, not_fails}
use Rattle.bits.specs.Counting.{Lowest}
use Rattle.bits.specs.Laws.Below.{none_below_elim}
use Rattle.bits.specs.Word.{LowestDropped}
use Rattle.lists.specs.PassingBelow.{passing_below, passing_ext, passing_only, passing_none, passing_lowest}
use Rattle.lists.specs.PassingBelow.{passing_add}
use Rattle.cell_rows.specs.Rows.{row_words, row_bits}
use Rattle.cell_rows.specs.CellPlaces.{marked}
use Rattle.cell_rows.specs.Laws.Width.{rows_cells}
use Rattle.fit.specs.Laws.FitWord.{marked_in_word}
use Rattle.verdict.specs.Insides.{has_cells, Insides}
use Rattle.verdict.specs.ReductionWork.{Work, word_cells, WorkReady, Visited}
use Rattle.verdict.specs.Laws.ReductionWork.{none_visited, visited_then, visited_ready}

no_cells : (i : ℕ) → word_cells i 0 ≡ []
no_cells i = rw (passing_none word_bits (bit 0) (λ q l. bit_of_zero q))

lowest_cell_first : (i : ℕ) {w q rest : ℕ} → Lowest word_bits (bit w) q → LowestDropped w rest
    → word_cells i w ≡ (i * word_bits + q) ∷ word_cells i rest
lowest_cell_first i {w} {q} {rest} low dropped =
    rw (
      passing_lowest word_bits (bit w) low,
      passing_ext word_bits (λ r. bit w r && not (eqb r q)) (bit rest) (λ r l. sym (dropped.others low r)),
    )

-- ---- within a word

-- the cells at the positions of w remain and are still to be visited, after which the whole word was
pub record Sweeping (rows : List ℕ) (users i : ℕ) (whole : List ℕ) (start now : Work) (w : ℕ) : Type 0 where
  pub ready : WorkReady rows users now
  pub set : (q : ℕ) → q < word_bits → So (bit w q) → So (marked now.left (i * word_bits + q))
  pub then : (end : Work) → Visited rows users (word_cells i w) now end → Visited rows users whole start end

module _ {rows : List ℕ} {users i : ℕ} where
  pub sweeping_at_first : {start : Work} → WorkReady rows users start
      → Sweeping rows users i (word_cells i (get_or start.left i 0)) start start (get_or start.left i 0)
  sweeping_at_first {start} ready =
      record { ready = ready; set = λ q l p. marked_in_word start.left i q l ∙ p; then = λ end v. v }

  pub sweeping_next : {whole : List ℕ} {start now next : Work} {w q rest : ℕ}
      → Sweeping rows users i whole start now w
      → Lowest word_bits (bit w) q → Visited rows users ((i * word_bits + q) ∷ []) now next → LowestDropped w rest
      → Sweeping rows users i whole start next rest
  sweeping_next {whole} {start} {now} {next} {w} {q} {rest} s low visited dropped =
      record {
        ready = visited_ready s.ready visited;
        set = λ r l p.
            let both = sym (dropped.others low r) ∙ p in
            visited.kept (i * word_bits + r)
            (λ m. eqb-false r q (not_fails (eqb r q) (and_right (bit w r) (not (eqb r q)) both)) (same r m))
            ∙ s.set r l (and_left (bit w r) (not (eqb r q)) both);
        then = λ end v. s.then end (rw (lowest_cell_first i low dropped) (visited_then visited v));
      }
    where
      same : (r : ℕ) → Memᴰ (i * word_bits + r) ((i * word_bits + q) ∷ []) → r ≡ q
      same r m = omega (arith, Memᴰ.eq_of_singleton m)

  pub sweeping_done : {whole : List ℕ} {start now : Work} → Sweeping rows users i whole start now 0
      → Visited rows users whole start now
  sweeping_done {now} s = s.then now (rw (no_cells i) (none_visited s.ready))

-- ---- from word to word

-- the cells below word i were visited
abbrev pub Swept : List ℕ → ℕ → ℕ → Work → Work → Type 0
Swept rows users i start now = Visited rows users (passing_below (i * word_bits) (marked start.left)) start now

module _ {rows : List ℕ} {users : ℕ} where
  pub swept_none : {start : Work} → WorkReady rows users start → Swept rows users 0 start start
  unfolding passing_below
  swept_none ready = none_visited ready

  -- the cells of word i are as they were at the start
  same_word : {start now : Work} (i : ℕ) → Swept rows users i start now
      → word_cells i (get_or now.left i 0) ≡ map (λ q. i * word_bits + q)
      (passing_below word_bits (λ q. marked start.left (i * word_bits + q)))
  same_word {start} {now} i swept =
      ap (map (λ q. i * word_bits + q))
      (passing_ext word_bits (bit (get_or now.left i 0)) (λ q. marked start.left (i * word_bits + q)) (λ q l.
      sym (marked_in_word now.left i q l)
      ∙ swept.kept (i * word_bits + q) (λ m. omega (
        arith,
        (passing_only (i * word_bits) (marked start.left)
            m).within,
      ))))

  pub swept_next : {start now next : Work} (i : ℕ) → Swept rows users i start now
      → Visited rows users (word_cells i (get_or now.left i 0)) now next → Swept rows users (i + 1) start next
  swept_next {start} i swept visited =
      let more : (i + 1) * word_bits ≡ i * word_bits + word_bits = omega arith in
      rw (more, passing_add (i * word_bits) word_bits (marked start.left))
      (visited_then swept (rw (same_word i swept) at visited))

-- ---- from user to user

-- the words of user u before word d were visited, and inside tells whose cells the others can be tied to
pub record SweepingUser (rows : List ℕ) (users u : ℕ) (inside : List ℕ) (before now : Work) (d : ℕ) : Type 0 where
  pub ready : WorkReady rows users now
  pub swept : (start : Work) → Swept rows users (u * row_words) start before
      → Swept rows users (u * row_words + d) start now
  pub insides : Insides rows now.left u inside

module _ {rows : List ℕ} {users u : ℕ} where
  pub user_at_first : {inside : List ℕ} {before : Work} → WorkReady rows users before
      → Insides rows before.left u inside → SweepingUser rows users u inside before before 0
  user_at_first ready found =
      record { ready = ready; swept = λ start s. rw (add-zero (u * row_words)) s; insides = found }

  pub user_next_word : {inside : List ℕ} {before now next : Work} {d : ℕ}
      → SweepingUser rows users u inside before now d
      → Visited rows users (word_cells (u * row_words + d) (get_or now.left (u * row_words + d) 0)) now next
      → Insides rows next.left u inside → SweepingUser rows users u inside before next (d + 1)
  user_next_word {d = d} sweeping visited found =
      record {
        ready = visited_ready sweeping.ready visited;
        swept = λ start s. rw (sym (add_assoc (u * row_words) d 1))
            (swept_next (u * row_words + d) (sweeping.swept start s) visited);
        insides = found;
      }

  pub user_done : {inside : List ℕ} {start before now : Work} {d : ℕ} → d ≤ row_words → row_words ≤ d
      → SweepingUser rows users u inside before now d → Swept rows users (u * row_words) start before
      → Swept rows users ((u + 1) * row_words) start now
  user_done {start = start} {d = d} most all sweeping s =
      let end : (u + 1) * row_words ≡ u * row_words + d = omega (arith, suc-mul u row_words) in
      rw end (sweeping.swept start s)

-- a user without cells
pub swept_no_cells : {rows : List ℕ} {users : ℕ} {start now : Work} (u : ℕ) → WorkReady rows users now
    → Swept rows users (u * row_words) start now → has_cells now.left u ≡ false
    → Swept rows users ((u + 1) * row_words) start now
swept_no_cells {start = start} {now = now} u ready swept none =
    let from = u * row_words * word_bits in
    let more : (u + 1) * row_words * word_bits ≡ from + row_bits = omega
    (arith, rows_cells (u + 1), rows_cells u, suc-mul u row_bits) in
    rw (more, passing_add from row_bits (marked start.left))
    (visited_then swept (rw (passing_none row_bits (λ q. marked start.left (from + q)) (λ q l.
    sym (swept.kept (from + q) (λ m. omega (arith, (passing_only from (marked start.left) m).within)))
    ∙ (rw (rows_cells u) at (none_below_elim row_bits (λ p. marked now.left (u * row_bits + p)) none l))))
    (none_visited ready)))
