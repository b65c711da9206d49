-- How the users to whose cells a user's grants can be tied are found, that they stay the same while that user's own
-- grants are removed, and that no other user has a tie.
use Rattle.std.specs.Prelude.{ℕ, ◌+◌, ◌*◌, ◌/◌, ◌%◌, ◌≤◌, ◌<◌, ◌≡◌, refl, false, ◌&&◌, List, [], ◌∷◌, get_or}
use Rattle.std.proofs.Common.{mod-lt, lt_of_lt_of_le, div-add-mod', div-lt_iff_lt-mul, sym, ap, subst, ◌∙◌, ⊎_elim, lit<}
use Rattle.std.proofs.Math.Bool.{So}
use mathlib.Core.List.Memᴰ
use Rattle.std.proofs.Math.Arith.{digits_lt, digits_div, digits_mod}
use Rattle.spec.specs.Limits.{user_limit}
use Rattle.spec.specs.Vocabulary.{every_below}
use Rattle.bits.specs.Counting.{some_below}
use Rattle.bits.specs.Bit.{bit, word_bits}
use Rattle.bits.specs.Truth.{implies, implies_intro, implies_elim, passes_or_fails, fails_unless, not_both}
use Rattle.bits.specs.Truth.{and_intro, and_left, and_right}
use Rattle.bits.specs.Laws.Below.{some_below_intro, some_below_elim, some_below_ext, none_below_intro}
use Rattle.bits.specs.Laws.Below.{none_below_elim, every_below_intro, every_below_elim, every_below_ext}
use Rattle.cell_rows.specs.Rows.{row_words, row_bits, cell}
use Rattle.cell_rows.specs.CellPlaces.{marked, Part, cells_of}
use Rattle.cell_rows.specs.Laws.Width.{row_bits_pos, rows_cells, cell_word, word_in_row, permission_below}
use Rattle.cells.specs.MadeCells.{MadeCells}
use Rattle.cells.specs.Laws.CellPlace.{cell_marked, user_below}
use Rattle.fit.specs.ColumnUnion.{in_union, in_row_union}
use Rattle.fit.specs.Columns.{column_words, Columns}
use Rattle.fit.specs.Laws.ColumnUnion.{union_reaches}
use Rattle.fit.specs.Laws.FitWord.{marked_in_word}
use Rattle.verdict.specs.NearCells.{tie_at}
use Rattle.cell_rows.specs.Laws.EveryWord.{every_in_word}
use Rattle.verdict.specs.Laws.NearWord.{row_cell, unless_in_own_row, unless_held}
use Rattle.verdict.specs.Laws.NearTie.{none_in_row}
use Rattle.bits.specs.Laws.Walk.{Walk, walk_begun}
use Rattle.verdict.specs.Laws.Misfit.{HoldersWord, no_holder}
use Rattle.verdict.specs.Laws.TieWalk.{NoneAt}
use Rattle.verdict.specs.ReductionWork.{Work, Visited}
use Rattle.verdict.specs.Insides.{has_cells, held_if_left, in_row, may_tie, Insides}

-- ---- the words of a user

-- a word that has a position has cells
pub cells_in_word : (left : List ℕ) (u d : ℕ) → d < row_words
    → So (some_below word_bits (bit (get_or left (u * row_words + d) 0))) → So (has_cells left u)
unfolding row_bits
cells_in_word left u d l some =
    let found = some_below_elim word_bits (bit (get_or left (u * row_words + d) 0)) some in
    some_below_intro row_bits (λ p. marked left (u * row_bits + p)) (digits_lt l found.within)
    (ap (marked left) (row_cell u d found.place)
    ∙ marked_in_word left (u * row_words + d) found.place found.within ∙ found.holds)

-- without such a word there are none
pub no_cells_in_words : (left : List ℕ) (u : ℕ)
    → ((d : ℕ) → d < row_words → some_below word_bits (bit (get_or left (u * row_words + d) 0)) ≡ false)
    → has_cells left u ≡ false
no_cells_in_words left u none =
    none_below_intro row_bits (λ p. marked left (u * row_bits + p))
    (λ p l. rw (cell_word u p) (none_below_elim word_bits (bit (get_or left (u * row_words + p / word_bits) 0))
    (none (p / word_bits) (word_in_row p l)) (mod-lt (u * row_bits + p) (lit< tt))))

-- word d of the user's cells of left, against that of a row
pub in_row_by_word : (rows left : List ℕ) (v u d : ℕ)
    → every_below word_bits (λ q. implies (bit (get_or left (u * row_words + d) 0) q)
    (bit (get_or rows (v * row_words + d) 0) q)) ≡ every_in_word (held_if_left rows left v u) d
in_row_by_word rows left v u d =
    every_below_ext word_bits (λ q. implies (bit (get_or left (u * row_words + d) 0) q)
    (bit (get_or rows (v * row_words + d) 0) q)) (λ q. held_if_left rows left v u (d * word_bits + q))
    (λ q l. rw (row_cell u d q, marked_in_word left (u * row_words + d) q l, digits_div d l, digits_mod d l))

-- ---- found

-- a cell of left is held
held_if_part : {rows left : List ℕ} → Part left rows → (u p : ℕ) → p < row_bits → So (marked left (u * row_bits + p))
    → So (cell rows u p)
held_if_part {rows} part u p l set =
    rw (digits_div u l, digits_mod u l) at
    (cell_marked rows (u * row_bits + p) ∙ part.held (u * row_bits + p) set)

-- who has cells in the row holds one of its permissions
pub unless_in_union : {rows columns left : List ℕ} → Columns rows columns → Part left rows → (v j t : ℕ)
    → j < column_words → t < word_bits → in_row_union columns rows v j t ≡ false
    → may_tie rows left v (j * word_bits + t) ≡ false
unless_in_union {rows} {columns} {left} made part v j t inside l fails =
    fails_unless (may_tie rows left v u) (λ tied.
    let found = some_below_elim row_bits (λ p. marked left (u * row_bits + p))
    (and_left (has_cells left u) (in_row rows left v u) tied) in
    let p = found.place in
    let k = word_in_row p found.within in
    let own : So (cell rows v p) = implies_elim (marked left (u * row_bits + p)) (cell rows v p)
    (every_below_elim row_bits (held_if_left rows left v u) (and_right (has_cells left u) (in_row rows left v u) tied)
    found.within) found.holds in
    not_both
    (some_below_intro row_words (λ d. in_union columns (get_or rows (v * row_words + d) 0) d j t) k
    (union_reaches rows columns made (get_or rows (v * row_words + p / word_bits) 0) (p / word_bits) j t (p % word_bits)
    k inside l (mod-lt p (lit< tt)) own
    (rw (div-add-mod' p word_bits) (held_if_part part u p found.within found.holds)))) fails)
  where
    u : ℕ
    u = j * word_bits + t

-- the cells of a user are in that user's own row
pub insides_found : {rows left : List ℕ} (v : ℕ) (inside : List ℕ) → Part left rows → v < user_limit
    → MadeCells (may_tie rows left v) user_limit inside → Insides rows left v inside
insides_found {rows} {left} v inside part within found =
    record {
      others = λ u l other. found.inside u l;
      own = λ n of-v p. found.inside v within ∙ and_intro (has_cells left v) (in_row rows left v v) (some n of-v p)
          (every_below_intro row_bits (held_if_left rows left v v) (λ r k.
          implies_intro (marked left (v * row_bits + r)) (cell rows v r) (held_if_part part v r k)));
    }
  where
    some : (n : ℕ) → n / row_bits ≡ v → So (marked left n) → So (has_cells left v)
    some n of-v p = some_below_intro row_bits (λ r. marked left (v * row_bits + r)) (permission_below n)
        (subst (λ m. So (marked left m)) (sym (rw of-v at (div-add-mod' n row_bits))) p)

-- ---- while grants of the user are removed

pub insides_kept : {rows : List ℕ} {users v n : ℕ} {inside : List ℕ} {now next : Work} → n / row_bits ≡ v
    → Insides rows now.left v inside → Visited rows users (n ∷ []) now next → Insides rows next.left v inside
insides_kept {rows} {users} {v} {n} {inside} {now} {next} of-v found visited =
    record {
      others = λ u l other. found.others u l other ∙ sym (same_test u other);
      own = λ m of-own p. found.own m of-own (visited.part.held m p);
    }
  where
    same_cell : (u r : ℕ) → (u ≡ v → ⊥) → r < row_bits → marked next.left (u * row_bits + r) ≡ marked now.left
        (u * row_bits + r)
    same_cell u r other l = visited.kept (u * row_bits + r)
        (λ m. other (sym (digits_div u l) ∙ ap (λ c. c / row_bits) (Memᴰ.eq_of_singleton m) ∙ of-v))

    same_test : (u : ℕ) → (u ≡ v → ⊥) → may_tie rows next.left v u ≡ may_tie rows now.left v u
    same_test u other =
        rw (
          some_below_ext row_bits (λ r. marked next.left (u * row_bits + r))
              (λ r. marked now.left (u * row_bits + r)) (λ r l. same_cell u r other l),
          every_below_ext row_bits (held_if_left rows next.left v u) (held_if_left rows now.left v u)
              (λ r l. rw (same_cell u r other l)),
        )

-- ---- no other user has a tie

module _ (rows left : List ℕ) (users it : ℕ) (part : Part left rows) where
  unless_may_tie : (n : ℕ) → n < cells_of users → may_tie rows left (it / row_bits) (n / row_bits) ≡ false
      → tie_at rows left users it n ≡ false
  unless_may_tie n inside fails =
      ⊎_elim
      (λ (some : So (has_cells left (n / row_bits))). unless_in_own_row rows left users it part (n / row_bits) n
      (user_below n users (rw (rows_cells users) inside)) refl (rw some at fails))
      (λ (none : has_cells left (n / row_bits) ≡ false). rw (subst (λ m. marked left m ≡ false)
      (div-add-mod' n row_bits)
      (none_below_elim row_bits (λ p. marked left (n / row_bits * row_bits + p)) none (permission_below n))))
      (passes_or_fails (has_cells left (n / row_bits)))

  pub insides_untried : (j held word : ℕ) (inside : List ℕ) → users ≤ user_limit
      → HoldersWord rows users (it % row_bits) j held → Insides rows left (it / row_bits) inside
      → So (marked left it) → ((q : ℕ) → bit word q ≡ (bit held q && bit (get_or inside j 0) q))
      → Walk word (NoneAt (tie_at rows left users it) users j) word
  insides_untried j held word inside few holders found set says =
      walk_begun (λ q l e within. none_in_row (j * word_bits + q) (tie_at rows left users it) (λ n of_user.
      let cell_within : n < cells_of users = rw (rows_cells users) at
      ((div-lt_iff_lt-mul {x = n} {y = users} row_bits_pos).0 (rw of_user within)) in
      ⊎_elim
      (λ (p : So (bit held q)). unless_may_tie n cell_within
      (rw of_user (not_inside q l within (rw p at (sym (says q) ∙ e)))))
      (λ (p : bit held q ≡ false). unless_held rows left users it part n cell_within
      (rw of_user (no_holder holders l p within)))
      (passes_or_fails (bit held q))))
    where
      own_user : So (marked inside (it / row_bits))
      own_user = found.own it refl set

      not_inside : (q : ℕ) → q < word_bits → j * word_bits + q < users → bit (get_or inside j 0) q ≡ false
          → may_tie rows left (it / row_bits) (j * word_bits + q) ≡ false
      not_inside q l within e =
          let unset : marked inside (j * word_bits + q) ≡ false = marked_in_word inside j q l ∙ e in
          sym (found.others (j * word_bits + q) (lt_of_lt_of_le within few)
          (λ same. not_both own_user (subst (λ u. marked inside u ≡ false) same unset))) ∙ unset
