-- Domination by misfits. A cell is near another only where its user holds the other's permission and it is in the row
-- of the other's user, so the other one is dominated unless there is a misfit, and the misfits of one word's cells
-- are told by one word of the rows.
use Rattle.std.specs.Prelude.{ℕ, ◌+◌, ◌-◌, ◌*◌, ◌/◌, ◌%◌, ◌≤◌, ◌<◌, ◌≡◌, refl, Bool, true, false, not, ◌&&◌, List, eqb, ltb, get_or}
use Rattle.std.proofs.Common.{mod-lt, div-add-mod', arith, sym, ap, subst, ◌∙◌, ⊎_elim, eq-eqb, ne_eqb, eqb-true, lt-ltb, ltb-true}
use Rattle.std.proofs.Math.Bool.{So, and-true, and-false}
use Rattle.std.proofs.Math.Arith.{digits_lt, digits_div, digits_mod}
use Rattle.std.specs.Int.Bits.{bit_and}
use Rattle.spec.specs.Vocabulary.{every_below}
use Rattle.spec.specs.Limits.{user_limit}
use Rattle.bits.specs.Bit.{bit, word_bits}
use Rattle.bits.specs.Laws.Bit.{bit_of_and}
use Rattle.bits.specs.Truth.{
  implies,
  implies_intro,
  passes_or_fails,
  same_truth,
  and_intro,
  and_left,
  and_right,
  fails_unless,
  not_fails,
  not_passes,
  not_both,
}
use Rattle.bits.specs.Laws.Below.{every_below_ext, every_below_intro, every_below_elim}
use Rattle.cell_rows.specs.Rows.{row_words, row_bits, cell}
use Rattle.cell_rows.specs.CellPlaces.{grant_of, marked, fit_in, FittingWord, cells_of}
use Rattle.cell_rows.specs.Laws.Width.{row_bits_pos, rows_cells, permission_below}
use Rattle.cells.specs.Laws.CellPlace.{word_of_cell, position_of_cell, user_below}
use Rattle.fit.specs.Laws.FitWord.{marked_in_word}
use Rattle.fit.specs.Columns.{column_words, held_in, Columns}
use Rattle.fit.specs.Laws.ColumnPlaces.{whole_columns}
use Rattle.fit.specs.Laws.Column.{column_position}
use Rattle.verdict.specs.NearCells.{dominates_in}
use Rattle.cell_rows.specs.Laws.EveryWord.{every_in_word}
use Rattle.verdict.specs.Laws.NearWord.{covered_at, row_cell, one_word_user}
use Rattle.verdict.specs.Misfits.{row_word, fits_if_in_row, row_fits, misfit_at, is_holder, is_suspect}

-- ---- the words of the holders

module _ (columns : List ℕ) (users p j : ℕ) where
  -- all positions are of users
  pub whole_word_holds : (j + 1) * word_bits ≤ users → (q : ℕ) → q < word_bits
      → bit (get_or columns (p * column_words + j) 0) q ≡ is_holder columns users p j q
  whole_word_holds all q m =
      sym (rw (lt-ltb (j * word_bits + q) users (omega arith))
      (and-true (bit (get_or columns (p * column_words + j) 0) q)))

  -- or those below an end
  pub cut_word_holds : (full : ℕ) → ((q : ℕ) → bit full q ≡ ltb q (users - j * word_bits)) → (q : ℕ)
      → bit (bit_and (get_or columns (p * column_words + j) 0) full) q ≡ is_holder columns users p j q
  cut_word_holds full says q =
      bit_of_and (get_or columns (p * column_words + j) 0) full q
      ∙ ap (λ b. bit (get_or columns (p * column_words + j) 0) q && b) (says q ∙ end_moved)
    where
      end_moved : ltb q (users - j * word_bits) ≡ ltb (j * word_bits + q) users
      end_moved =
          same_truth (ltb q (users - j * word_bits)) (ltb (j * word_bits + q) users)
          (λ e. lt-ltb (j * word_bits + q) users
          (omega (arith, ltb-true q (users - j * word_bits) e)))
          (λ e. lt-ltb q (users - j * word_bits)
          (omega (arith, ltb-true (j * word_bits + q) users e)))

within_column : {users j : ℕ} → users ≤ user_limit → j * word_bits < users → j < column_words
within_column few l = omega (arith, whole_columns)

-- the users who hold the permission p, at the positions of word j of its column
pub record HoldersWord (rows : List ℕ) (users p j word : ℕ) : Type 0 where
  pub bits : (q : ℕ) → q < word_bits
      → bit word q ≡ (held_in rows p (j * word_bits + q) && ltb (j * word_bits + q) users)

pub holders_word : {rows columns : List ℕ} → Columns rows columns → {users p j word : ℕ} → users ≤ user_limit
    → p < row_bits → j * word_bits < users
    → ((q : ℕ) → q < word_bits → bit word q ≡ is_holder columns users p j q) → HoldersWord rows users p j word
holders_word {rows} {columns} made {users} {p} {j} few k l says = record {
  bits = λ q m. says q m ∙ ap (λ b. b && ltb (j * word_bits + q) users)
      (column_position rows columns made p j q k (within_column few l) m);
}

module _ {rows : List ℕ} {users p j word : ℕ} (holders : HoldersWord rows users p j word) where
  pub holder_within : {q : ℕ} → q < word_bits → So (bit word q) → j * word_bits + q < users
  holder_within {q} l e =
      ltb-true (j * word_bits + q) users
      (and_right (held_in rows p (j * word_bits + q)) (ltb (j * word_bits + q) users)
      (sym (holders.bits q l) ∙ e))

  pub no_holder : {q : ℕ} → q < word_bits → bit word q ≡ false → j * word_bits + q < users
      → held_in rows p (j * word_bits + q) ≡ false
  no_holder {q} l e inside =
      sym (and-true (held_in rows p (j * word_bits + q)))
      ∙ (rw (lt-ltb (j * word_bits + q) users inside) at (sym (holders.bits q l) ∙ e))

-- ---- the cells of a user in a row

-- word d of the user's cells: the word of left and that of the row together, within the fitting word
pub row_fits_by_word : (rows left : List ℕ) (it v x d : ℕ) {fits_it : ℕ}
    → FittingWord rows it (x * row_words + d) fits_it
    → every_below word_bits (λ q. implies
    (bit (bit_and (get_or left (x * row_words + d) 0) (get_or rows (v * row_words + d) 0)) q) (bit fits_it q)) ≡
    every_in_word (fits_if_in_row rows left it v x) d
row_fits_by_word rows left it v x d {fits_it} of-it =
    let left_word = get_or left (x * row_words + d) 0 in
    let row = get_or rows (v * row_words + d) 0 in
    every_below_ext word_bits (λ q. implies (bit (bit_and left_word row) q) (bit fits_it q))
    (λ q. fits_if_in_row rows left it v x (d * word_bits + q))
    (λ q l. rw (
      row_cell x d q,
      marked_in_word left (x * row_words + d) q l,
      digits_div d l,
      digits_mod d l,
      bit_of_and left_word row q,
      of-it.bits q l,
    ))

-- a cell of user x fits another where the other's user holds its permission, and x the other's
fit_by_user : (rows : List ℕ) (g x p : ℕ) → p < row_bits
    → fit_in rows (grant_of g) (grant_of (x * row_bits + p)) ≡ (cell rows (g / row_bits) p
    && held_in rows (g % row_bits) x)
fit_by_user rows g x p l = rw (digits_div x l, digits_mod x l)

-- what is in the grant's own row fits it, where the cells' user holds its permission
own_row_fits : (rows left : List ℕ) (it x : ℕ) → So (held_in rows (it % row_bits) x)
    → So (row_fits rows left it (it / row_bits) x)
own_row_fits rows left it x held =
    every_below_intro row_bits (fits_if_in_row rows left it (it / row_bits) x)
    (λ p l. implies_intro (marked left (x * row_bits + p) && cell rows (it / row_bits) p)
    (fit_in rows (grant_of it) (grant_of (x * row_bits + p))) (λ m.
    fit_by_user rows it x p l
    ∙ and_intro (cell rows (it / row_bits) p) (held_in rows (it % row_bits) x)
    (and_right (marked left (x * row_bits + p)) (cell rows (it / row_bits) p) m) held))

-- ---- the users who can be misfits

module _ (columns : List ℕ) (users it g j : ℕ) where
  -- all holders
  pub suspects_all : (it / row_bits ≡ g / row_bits → ⊥) → (q : ℕ)
      → is_holder columns users (g % row_bits) j q ≡ is_suspect columns users it g j q
  suspects_all other q =
      sym (ap (λ b. is_holder columns users (g % row_bits) j q && not (b && is_holder columns users (it % row_bits) j
      q))
      (ne_eqb (it / row_bits) (g / row_bits) other)
      ∙ and-true (is_holder columns users (g % row_bits) j q))

  -- those who do not hold the permission of the cell it, whose user is that of g
  pub suspects_apart : it / row_bits ≡ g / row_bits → (q : ℕ) {held both : Bool}
      → held ≡ is_holder columns users (g % row_bits) j q → both ≡ is_holder columns users (it % row_bits) j q
      → (held && not both) ≡ is_suspect columns users it g j q
  suspects_apart one_user q {held} {both} of_other of-own =
      ap (λ b. b && not both) of_other ∙ ap (λ b. is_holder columns users (g % row_bits) j q && not b) of-own
      ∙ sym (ap (λ b. is_holder columns users (g % row_bits) j q
      && not (b && is_holder columns users (it % row_bits) j q))
      (eq-eqb (it / row_bits) (g / row_bits) one_user))

-- the users who can be misfits for the cell g, at the positions of word j of its permission's column
pub record SuspectsWord (rows left : List ℕ) (users it g j word : ℕ) : Type 0 where
  pub within : (q : ℕ) → q < word_bits → So (bit word q) → j * word_bits + q < users
  pub holds : (q : ℕ) → q < word_bits → So (bit word q) → So (held_in rows (g % row_bits) (j * word_bits + q))
  pub others : (q : ℕ) → q < word_bits → bit word q ≡ false → j * word_bits + q < users
      → misfit_at rows left it g (j * word_bits + q) ≡ false

pub suspects_word : (rows columns left : List ℕ) → Columns rows columns → (users it g j word : ℕ) → users ≤ user_limit
    → j * word_bits < users
    → ((q : ℕ) → q < word_bits → bit word q ≡ is_suspect columns users it g j q)
    → SuspectsWord rows left users it g j word
suspects_word rows columns left made users it g j word few l says = record {
  within = λ q m e. ltb-true (j * word_bits + q) users
      (and_right (in_column g q) (ltb (j * word_bits + q) users) (holder q m e));
  holds = λ q m e. sym (position g q m)
      ∙ and_left (in_column g q) (ltb (j * word_bits + q) users) (holder q m e);
  others = λ q m e inside. ⊎_elim (λ h. unless_suspect q m e inside h) (λ f. rw f)
      (passes_or_fails (held_in rows (g % row_bits) (j * word_bits + q)));
}
  where
    in_column : ℕ → ℕ → Bool
    in_column n q = bit (get_or columns (n % row_bits * column_words + j) 0) q

    position : (n q : ℕ) → q < word_bits → in_column n q ≡ held_in rows (n % row_bits) (j * word_bits + q)
    position n q m = column_position rows columns made (n % row_bits) j q (mod-lt n row_bits_pos)
        (within_column few l) m

    -- the cell it has g's user, and the user holds its permission
    both : ℕ → Bool
    both q = eqb (it / row_bits) (g / row_bits) && is_holder columns users (it % row_bits) j q

    holder : (q : ℕ) → q < word_bits → So (bit word q) → So (is_holder columns users (g % row_bits) j q)
    holder q m e = and_left (is_holder columns users (g % row_bits) j q) (not (both q)) (sym (says q m) ∙ e)

    fits : (q : ℕ) → q < word_bits → So (both q) → So (row_fits rows left it (g / row_bits) (j * word_bits + q))
    fits q m p =
        let own = and_right (eqb (it / row_bits) (g / row_bits)) (is_holder columns users (it % row_bits) j q) p in
        subst (λ v. So (row_fits rows left it v (j * word_bits + q)))
        (eqb-true (it / row_bits) (g / row_bits)
        (and_left (eqb (it / row_bits) (g / row_bits)) (is_holder columns users (it % row_bits) j q) p))
        (own_row_fits rows left it (j * word_bits + q) (sym (position it q m)
        ∙ and_left (in_column it q) (ltb (j * word_bits + q) users) own))

    unless_suspect : (q : ℕ) → q < word_bits → bit word q ≡ false → j * word_bits + q < users
        → So (held_in rows (g % row_bits) (j * word_bits + q))
        → misfit_at rows left it g (j * word_bits + q) ≡ false
    unless_suspect q m e inside h = ⊎_elim
        (λ p. rw (fits q m p) (and-false (held_in rows (g % row_bits) (j * word_bits + q))))
        (λ f. absurd (not_both (and_intro (is_holder columns users (g % row_bits) j q) (not (both q))
        (and_intro (in_column g q) (ltb (j * word_bits + q) users) (position g q m ∙ h)
        (lt-ltb (j * word_bits + q) users inside))
        (not_passes (both q) f)) (sym (says q m) ∙ e)))
        (passes_or_fails (both q))

-- ---- domination

module _ (rows left : List ℕ) (it g : ℕ) where
  -- where user x holds the permission of g, domination asks that the cells in the row fit
  covered_if_held : (x p : ℕ) → p < row_bits → So (held_in rows (g % row_bits) x)
      → covered_at rows left it g (x * row_bits + p) ≡ fits_if_in_row rows left it (g / row_bits) x p
  covered_if_held x p l held =
      ap (λ b. implies (marked left (x * row_bits + p) && b)
      (fit_in rows (grant_of it) (grant_of (x * row_bits + p))))
      (fit_by_user rows g x p l ∙ rw held (and-true (cell rows (g / row_bits) p)))

  -- else it asks nothing
  covered_unless_held : (x p : ℕ) → p < row_bits → held_in rows (g % row_bits) x ≡ false
      → So (covered_at rows left it g (x * row_bits + p))
  covered_unless_held x p l fails =
      rw (ap (λ b. marked left (x * row_bits + p) && b) (fit_by_user rows g x p l
      ∙ rw fails (and-false (cell rows (g / row_bits) p)))
      ∙ and-false (marked left (x * row_bits + p)))

  covered_unless_misfit : (x p : ℕ) → p < row_bits → misfit_at rows left it g x ≡ false
      → So (covered_at rows left it g (x * row_bits + p))
  covered_unless_misfit x p l none =
      ⊎_elim
      (λ held. covered_if_held x p l held ∙ every_below_elim row_bits (fits_if_in_row rows left it (g / row_bits) x)
      (fits (row_fits rows left it (g / row_bits) x) (rw held at none)) l)
      (covered_unless_held x p l)
      (passes_or_fails (held_in rows (g % row_bits) x))
    where
      fits : (b : Bool) → not b ≡ false → So b
      fits true e = refl
      fits false e = sym e

  pub misfit_fails : (users : ℕ) {x : ℕ} → x < users → So (misfit_at rows left it g x)
      → dominates_in rows left users it g ≡ false
  misfit_fails users {x} l p =
      fails_unless (dominates_in rows left users it g) (λ dominated. not_both
      (every_below_intro row_bits (fits_if_in_row rows left it (g / row_bits) x) (λ r k.
      sym (covered_if_held x r k held) ∙ every_below_elim (cells_of users) (covered_at rows left it g) dominated
      (rw (rows_cells users) at (digits_lt l k))))
      (not_fails (row_fits rows left it (g / row_bits) x) (and_right (held_in rows (g % row_bits) x)
      (not (row_fits rows left it (g / row_bits) x)) p)))
    where
      held : So (held_in rows (g % row_bits) x)
      held = and_left (held_in rows (g % row_bits) x) (not (row_fits rows left it (g / row_bits) x)) p

  pub unless_misfit : (users : ℕ) → ((x : ℕ) → x < users → misfit_at rows left it g x ≡ false)
      → So (dominates_in rows left users it g)
  unless_misfit users none =
      every_below_intro (cells_of users) (covered_at rows left it g) (λ n l.
      subst (λ m. So (covered_at rows left it g m)) (div-add-mod' n row_bits)
      (covered_unless_misfit (n / row_bits) (n % row_bits) (permission_below n)
      (none (n / row_bits) (user_below n users (rw (rows_cells users) l)))))

-- ---- the candidates of a word

-- the users who hold the permission of a cell are told by the word of their rows that its word is in
held_by_word : (rows : List ℕ) (i x q : ℕ) → q < word_bits
    → held_in rows ((i * word_bits + q) % row_bits) x ≡ bit (row_word rows x i) q
held_by_word rows i x q l =
    rw (word_of_cell (i * word_bits + q), position_of_cell (i * word_bits + q), digits_div i l, digits_mod i l)

-- the cells of a word have one user, so a misfit of one is a misfit of all whose permissions are held
pub misfit_of_others : (rows left : List ℕ) (it i x q r : ℕ) → q < word_bits → r < word_bits
    → So (misfit_at rows left it (i * word_bits + q) x)
    → So (bit (row_word rows x i) r) → So (misfit_at rows left it (i * word_bits + r) x)
misfit_of_others rows left it i x q r l k p held =
    and_intro (held_in rows ((i * word_bits + r) % row_bits) x)
    (not (row_fits rows left it ((i * word_bits + r) / row_bits) x))
    (held_by_word rows i x r k ∙ held)
    (subst (λ v. So (not (row_fits rows left it v x))) (one_word_user i q r l k)
    (and_right (held_in rows ((i * word_bits + q) % row_bits) x)
    (not (row_fits rows left it ((i * word_bits + q) / row_bits) x)) p))

-- the cell itself is one of them
pub misfit_held : (rows left : List ℕ) (it i x q : ℕ) → q < word_bits
    → So (misfit_at rows left it (i * word_bits + q) x)
    → So (bit (row_word rows x i) q)
misfit_held rows left it i x q l p =
    sym (held_by_word rows i x q l)
    ∙ and_left (held_in rows ((i * word_bits + q) % row_bits) x)
    (not (row_fits rows left it ((i * word_bits + q) / row_bits) x)) p
